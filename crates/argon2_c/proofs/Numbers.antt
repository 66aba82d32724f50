-- The numbers of variants and of versions.
use Rattle.std.proofs.Common.{◌≡◌, ◌≤◌, ◌⊎◌, inl, inr, refl, arith}
use Rattle.argon2.specs.Settings.{algorithm_number, version_number}
use Rattle.argon2.specs.declared.algorithm.Algorithm.{Algorithm}
use Rattle.argon2.specs.declared.algorithm.Algorithm.TheVariants.{Argon2d, Argon2i, Argon2id}
use Rattle.argon2.specs.declared.version.Version.{Version}
use Rattle.argon2.specs.declared.version.Version.TheVariants.{V0x10, V0x13}

-- the number of a variant is at most 2
pub algorithm_number-most : (algorithm : Algorithm) → algorithm_number algorithm ≤ 2
algorithm_number-most Argon2d = omega arith
algorithm_number-most Argon2i = omega arith
algorithm_number-most Argon2id = omega arith

-- the number of a version is 16 or 19
pub version_number-16_or_19 : (version : Version) → (version_number version ≡ 16) ⊎ (version_number version ≡ 19)
version_number-16_or_19 V0x10 = inl refl
version_number-16_or_19 V0x13 = inr refl
