-- The tokens of a JSON object, written one after another.
use Rattle.std.proofs.Common.{arith, ◌≡◌, ◌∙◌, List, [], ◌∷◌, ◌++◌, Result, OnOk, ap, append_assoc}
use Rattle.std.proofs.lemmas.Result.{on_ok_weaker}
use Rattle.json.specs.Json.{Json, item}
use Rattle.json.specs.Token.{Token}
use Rattle.json.specs.Tree.{items_tokens, json_tokens}
use Rattle.json.specs.Written.{Written, Writes}
use Rattle.argon2_audit.specs.Object.{Adds, AddsValue, HasItems}

-- a call that writes a token, and returns, adds the token
pub Adds-token : {E : Type 0} {r : Result (Unit {0}) E} {old new : Written} {t : Token} → Writes r old new t
    → new.tokens ≡ old.tokens ++ t ∷ [] → Adds old new (t ∷ [])
Adds-token writes tokens = record { before = writes.room.0; tokens = tokens }

-- what follows from the added token holds if the call returns
pub OnOk-token : {E P : Type 0} {r : Result (Unit {0}) E} {old new : Written} {t : Token} → Writes r old new t
    → (Adds old new (t ∷ []) → P) → OnOk r P
OnOk-token {r = r} writes more = on_ok_weaker r (λ tokens. more (Adds-token writes tokens)) writes.ok

-- two calls, one after the other, add what the first adds and then what the second adds
pub Adds-append : {old middle new : Written} {xs ys : List Token} → Adds old middle xs → Adds middle new ys
    → Adds old new (xs ++ ys)
Adds-append {old} {middle} {new} {xs} {ys} first next = record {
  before = next.before ∙ first.before;
  tokens = next.tokens ∙ ap (λ tokens. tokens ++ ys) first.tokens ∙ append_assoc old.tokens xs ys;
}

-- the tokens at the beginning have no items after them
pub HasItems-none : {front tokens : List Token} → tokens ≡ front → HasItems front tokens
HasItems-none is = record {
  all = λ more. more;
  reads = λ more. ap (λ tokens. tokens ++ items_tokens more) is;
  are = λ more are. are;
}

-- after an item is added, the tokens have one item more
pub HasItems-item : {front : List Token} {old new : Written} {value : Json} → AddsValue old new 1 value
    → HasItems front old.tokens → HasItems front new.tokens
HasItems-item {old = old} {value = value} added has = record {
  all = λ more. has.all (item value more);
  reads = λ more. ap (λ tokens. tokens ++ items_tokens more) added.adds.tokens
      ∙ append_assoc old.tokens (json_tokens value) (items_tokens more) ∙ has.reads (item value more);
  are = λ more are. has.are (item value more) ((added.flat.0, are.0), let flat = added.flat.1 in omega arith);
}
