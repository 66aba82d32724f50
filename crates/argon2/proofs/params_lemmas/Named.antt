-- Algorithms by their names and versions by their numbers.
use Rattle.argon2.proofs.Imports.{◌≡◌, ◌≢◌, ℕ, List, Some, None, Result, Ok, Err, arith, result_ok, nat_tests, bytes_eq-Decides, Algorithm, Version, IsReadBy, algorithm_name}
use Rattle.argon2.proofs.Imports.{algorithm_named, version_number, version_numbered, HashError, NoAlgorithm}
use Rattle.argon2.specs.declared.algorithm.Algorithm.TheVariants.{Argon2d, Argon2i, Argon2id}
use Rattle.argon2.specs.declared.version.Version.TheVariants.{V0x10, V0x13}

-- a variant is found by its name
pub algorithm_named-name : (algorithm : Algorithm) → algorithm_named (algorithm_name algorithm) ≡ Some algorithm
algorithm_named-name algorithm = grind arith

-- by a name that no variant has none is found
pub algorithm_named-no : (name : List ℕ) → ((algorithm : Algorithm) → name ≢ algorithm_name algorithm)
    → algorithm_named name ≡ None
algorithm_named-no name other = grind (arith, bytes_eq-Decides, other Argon2d, other Argon2i, other Argon2id)

-- a version is found by its number
pub version_numbered-number : (version : Version) → version_numbered (version_number version) ≡ Some version
version_numbered-number version = grind arith

-- by a number that no version has none is found
pub version_numbered-no : (number : ℕ) → ((version : Version) → number ≢ version_number version) → version_numbered number ≡ None
version_numbered-no number other = grind (arith, nat_tests, other V0x10, other V0x13)

-- what no name and no number is found by
pub ruleset not_found = (algorithm_named-no, version_numbered-no)

-- what a name in a text is answered is what is found by it
pub algorithm_named-text : (name : List ℕ) (r : Result Algorithm HashError)
    → IsReadBy algorithm_name NoAlgorithm name r → algorithm_named name ≡ result_ok r
algorithm_named-text name (Ok algorithm) is = rw is (algorithm_named-name algorithm)
algorithm_named-text name (Err e) not = algorithm_named-no name not.1
