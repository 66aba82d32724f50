use Rattle.argon2.proofs.Imports.{ap, option_copied, ◌≡◌, ℕ, List, Option, Some, Result, Ok, Err, refl, outcome_of, Algorithm, IsReadBy, algorithm_name, algorithm_or_default, HashError}
use Rattle.argon2.proofs.Imports.{NoAlgorithm}
use Rattle.argon2.proofs.params_lemmas.Named.{algorithm_named-text}
use Rattle.argon2.proofs.password_hash.hashing.asked_algorithm.Goals as goal

-- an algorithm that is asked for by its name
named_asked : (name : List ℕ) (o : Option (List ℕ)) (r : Result Algorithm HashError) → o ≡ Some name
    → IsReadBy algorithm_name NoAlgorithm name r
    → outcome_of (λ algorithm. algorithm) r ≡ algorithm_or_default o
named_asked name o (Ok algorithm) e is = rw (e, algorithm_named-text name (Ok algorithm) is) refl
named_asked name o (Err fault) e not = rw (e, algorithm_named-text name (Err fault) not, not.0) refl

pub returns : goal.returns
returns c = named_asked c.in-Some.name.now (option_copied c.args.name) c.try_from.result
    (ap option_copied c.in-Some.is) c.try_from.ensures
