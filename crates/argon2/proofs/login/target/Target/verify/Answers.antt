use Rattle.argon2.proofs.Imports.{ℕ, List, Result, Ok, Err, MatchResult, Phc, secret_of, AcceptsBy, IsVerifyAnswer, HashError}
use Rattle.argon2.proofs.password_hash_lemmas.Verified.{exact}
use Rattle.argon2.proofs.login.target.Target.verify.Goals as goal

answered : (secret password : List ℕ) (v : Phc) (r : Result (Unit {0}) HashError) → IsVerifyAnswer secret password v r
    → MatchResult r (λ _. AcceptsBy secret password v) (λ e. IsVerifyAnswer secret password v (Err e))
answered secret password v (Ok x) is = exact secret password v (Ok x) is
answered secret password v (Err e) is = is

pub returns : goal.returns
returns c = λ v is.
    answered (secret_of c.args.self.now.argon2) c.args.password.now v c.verify_stored.result (c.verify_stored.ensures v is)
