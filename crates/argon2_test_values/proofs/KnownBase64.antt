-- The values of RFC 4648, section 10, without their padding.
use Rattle.std.proofs.Common.{◌≡◌, codes, refl}
use Rattle.base64.specs.Rfc4648.{encode_symbols}
use Rattle.argon2_base.specs.Texts.{strict_base64}

pub fooba : strict_base64 (codes "fooba") ≡ codes "Zm9vYmE"
unfolding encode_symbols strict_base64
fooba = refl

pub foob : strict_base64 (codes "foob") ≡ codes "Zm9vYg"
unfolding encode_symbols strict_base64
foob = refl

pub foobar : strict_base64 (codes "foobar") ≡ codes "Zm9vYmFy"
unfolding encode_symbols strict_base64
foobar = refl
