use Rattle.argon2_base.proofs.Imports.{refl}
use Rattle.argon2_base.proofs.error.encoding_text.Goals as goal

pub returns-in-InvalidEncoding : goal.returns-in-InvalidEncoding
returns-in-InvalidEncoding c = rw c.in-InvalidEncoding.is refl

pub returns-in-InvalidLength : goal.returns-in-InvalidLength
returns-in-InvalidLength c = rw c.in-InvalidLength.is refl
