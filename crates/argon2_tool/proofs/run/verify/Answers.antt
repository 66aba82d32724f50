use Rattle.std.proofs.Common.{arith, List, [], ℕ, Err, inl, inr, sym}
use Rattle.std.proofs.lemmas.Result.{err_from_is_err_and}
use Rattle.std.specs.Borrow.{Bor}
use Rattle.argon2.specs.StoredTexts.{IsVerifyTextAnswer}
use Rattle.argon2_base.specs.Error.{fault_of}
use Rattle.argon2_base.specs.declared.error.password_hash.Error.{Error}
use Rattle.argon2_tool.specs.Commands.{Fails, IsVerifyFault}
use Rattle.argon2_tool.specs.Failures.{IsTextFailure}
use Rattle.argon2_tool.specs.declared.arguments.Command.TheVariants.{Verify}
use Rattle.argon2_tool.specs.declared.failure.Failure.{Failure}
use Rattle.argon2_io.specs.declared.failure.Failure.TheVariants.{Input, Output, Memory, Other}
use Rattle.argon2_tool.specs.declared.failure.Failure.TheVariants.{Io, Hashing, Text}
use Rattle.argon2_tool.proofs.run.verify.Goals as goal

-- a refusal that is not out of memory is the text's
IsVerifyFault-refused : (password text : List ℕ) (e own : Error) → IsVerifyTextAnswer [] password text (Err e)
    → IsTextFailure e (Text own) → IsVerifyFault password text (fault_of own)
IsVerifyFault-refused password text e own (inl (v, is, inl same)) of = rw of.0 (inl (v, is, sym same))
IsVerifyFault-refused password text e own (inl (v, is, inr (none, known))) of = absurd (of.1 (grind arith))
IsVerifyFault-refused password text e own (inr (none, same)) of = rw of.0 (inr (none, grind arith))

-- an error of `verify_password` is why the command has no reply
Fails-verify : (text : Bor (List ℕ)) (password : List ℕ) (e : Error) (failure : Failure)
    → IsVerifyTextAnswer [] password text.now (Err e) → IsTextFailure e failure → Fails (Verify text) password failure
Fails-verify text password e (Io (Memory none)) answer of = tt
Fails-verify text password e (Text own) answer of = IsVerifyFault-refused password text.now e own answer of
Fails-verify text password e (Hashing own) answer of = absurd of
Fails-verify text password e (Io (Input error)) answer of = absurd of.0
Fails-verify text password e (Io (Output error)) answer of = absurd of.0
Fails-verify text password e (Io (Other what)) answer of = absurd of.0

pub returns-in_err-verify_password : goal.returns-in_err-verify_password
returns-in_err-verify_password c =
    let why = rw c.default.ensures at c.in_err-verify_password.ensures.answer in
    let failed = err_from_is_err_and c.from_residual.result c.from_residual.ensures.1 in
    rw failed.1 (Fails-verify c.args.text c.args.password.now _ failed.0 why failed.2)
