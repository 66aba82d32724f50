-- Questions and answers on a terminal.
use Rattle.argon2_passwd.proofs.Common.{ap, append_assoc, Appends, arith, after_line, common_steps, DropsThrough, Failure, inl, inr, List, None, Option, Some, ℕ, ◌++◌, ◌≡◌, ◌∙◌}
use Rattle.std.specs.Prelude.{◌⊎◌}
use Rattle.argon2_passwd.specs.Asking.{ReadsLine, TakesNoNew, TakesNone}

-- two writes, one after the other, append both texts
pub two_writes_append : (first second : List ℕ) (old mid new : Option (List ℕ)) → Appends old mid first → Appends mid new second
    → Appends old new (first ++ second)
two_writes_append first second None mid new one two = tt
two_writes_append first second (Some xs) None new one two = absurd one
two_writes_append first second (Some xs) (Some ys) None one two = absurd two
two_writes_append first second (Some xs) (Some ys) (Some zs) one two =
    two ∙ ap (λ l. l ++ second) one ∙ append_assoc xs first second

-- a failure to take a line is one also if the input is not known
takes_none-unknown : (failure : Failure) (input : Option (List ℕ)) → TakesNone failure input → TakesNone failure None
takes_none-unknown failure input none = grind (arith, common_steps)

-- a failure to take a new password is one also if the input is not known
takes_no_new-unknown : (failure : Failure) (input : Option (List ℕ)) → TakesNoNew failure input → TakesNoNew failure None
takes_no_new-unknown failure input (inl none) = inl (takes_none-unknown failure input none)
takes_no_new-unknown failure input (inr (first, read, inl none)) =
    inr (first, tt, inl (takes_none-unknown failure (after_line input) none))
takes_no_new-unknown failure input (inr (first, read, inr (same, (again, next, other)))) =
    inr (first, tt, inr (same, (again, tt, other)))

-- a failure to take a new password from the rest of an input is one after its first line
takes_no_new-after : (failure : Failure) (input rest : Option (List ℕ)) → DropsThrough input rest 10 → TakesNoNew failure rest
    → TakesNoNew failure (after_line input)
takes_no_new-after failure None rest drops it = takes_no_new-unknown failure rest it
takes_no_new-after failure (Some bytes) rest drops it = rw drops at it

-- if no new password follows the old one, none is taken after the first line
pub no_new_after_old : (failure : Failure) (line : List ℕ) (input rest : Option (List ℕ)) → ReadsLine (λ read. line ≡ read) input
    → DropsThrough input rest 10 → TakesNoNew failure rest
    → TakesNone failure input ⊎ ReadsLine (λ old. TakesNoNew failure (after_line input)) input
no_new_after_old failure line input rest (old, read, same) drops it =
    inr (old, read, takes_no_new-after failure input rest drops it)
