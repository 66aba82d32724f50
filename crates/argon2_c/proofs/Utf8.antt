-- Spellings are UTF-8.
use Rattle.std.proofs.Common.{◌≡◌, ℕ, ◌<◌, ◌^◌, true, List, [], ◌∷◌, ◌++◌, codes, nat_lt, refl, arith, Option, Some, None}
use Rattle.std.specs.Prelude.{IfSome}
use Rattle.std.specs.List.{list_all}
use Rattle.std.specs.Str.{IsUtf8}
use Rattle.std.specs.Fmt.{decimal}
use Rattle.std.proofs.lemmas.Fmt.{IsAscii-decimal}
use Rattle.std.proofs.lemmas.Bool.{and_parts, ltb-true}
use Rattle.std.proofs.lemmas.Str.{IsUtf8-append, IsUtf8-from_ascii}
use Rattle.std.proofs.lemmas.Str.Ascii.{IsAscii-cons, IsAscii-nil}
use Rattle.argon2_base.specs.Texts.{strict_base64}
use Rattle.argon2_base.proofs.phc_lemmas.Base64Lemmas.{IsUtf8-strict_base64}
use Rattle.argon2_c.specs.Texts.{Said, IsSaid, spelling, version_part}

-- text after ASCII characters is UTF-8
IsUtf8-after_ascii : (s t : List ℕ) → list_all (λ x. nat_lt x 128) s ≡ true → IsUtf8 t → IsUtf8 (s ++ t)
IsUtf8-after_ascii [] t h k = k
IsUtf8-after_ascii (c ∷ s) t h k =
    let parts = and_parts (nat_lt c 128) (list_all (λ x. nat_lt x 128) s) h in
    let one = IsAscii-cons c [] (ltb-true c 128 parts.0) IsAscii-nil in
    IsUtf8-append (c ∷ []) (s ++ t) (IsUtf8-from_ascii (c ∷ []) one) (IsUtf8-after_ascii s t parts.1 k)

-- text after ASCII characters and a number is UTF-8
IsUtf8-after_number : (s : List ℕ) (n : ℕ) (t : List ℕ) → list_all (λ x. nat_lt x 128) s ≡ true → n < 2 ^ 32 → IsUtf8 t
    → IsUtf8 (s ++ (decimal n ++ t))
IsUtf8-after_number s n t h small k =
    IsUtf8-after_ascii s _ h (IsUtf8-append (decimal n) t (IsUtf8-from_ascii (decimal n) (IsAscii-decimal n (omega arith))) k)

-- text after a version is UTF-8
IsUtf8-after_version : (o : Option ℕ) (t : List ℕ) → IfSome o (λ n. n < 2 ^ 32) → IsUtf8 t → IsUtf8 (version_part o t)
IsUtf8-after_version None t h k = k
IsUtf8-after_version (Some n) t h k = IsUtf8-after_number (codes "v=") n _ refl h (IsUtf8-after_ascii (codes "$") t refl k)

-- a spelling is UTF-8
pub IsUtf8-spelling : (name : List ℕ) (v : Said) → IsUtf8 name → IsSaid v → IsUtf8 (spelling name v)
IsUtf8-spelling name v n h =
    IsUtf8-after_ascii (codes "$") _ refl (IsUtf8-append name _ n (IsUtf8-after_ascii (codes "$") _ refl
    (IsUtf8-after_version v.version _ h.small_version (IsUtf8-after_number (codes "m=") v.m_cost _ refl h.small_m_cost
    (IsUtf8-after_number (codes ",t=") v.t_cost _ refl h.small_t_cost
    (IsUtf8-after_number (codes ",p=") v.lanes _ refl h.small_lanes
    (IsUtf8-after_ascii (codes "$") _ refl (IsUtf8-append (strict_base64 v.salt) _ (IsUtf8-strict_base64 v.salt)
    (IsUtf8-after_ascii (codes "$") _ refl (IsUtf8-strict_base64 v.tag))))))))))
