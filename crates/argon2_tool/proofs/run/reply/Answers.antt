use Rattle.std.proofs.Common.{refl}
use Rattle.argon2_tool.proofs.run.reply.Goals as goal

pub returns-in_err-from_str-in-Version-clause-page : goal.returns-in_err-from_str-in-Version-clause-page
returns-in_err-from_str-in-Version-clause-page g c = λ page. refl

pub returns-in_ok-from_str-in-Version-clause-page : goal.returns-in_ok-from_str-in-Version-clause-page
returns-in_ok-from_str-in-Version-clause-page g c = λ page. refl
