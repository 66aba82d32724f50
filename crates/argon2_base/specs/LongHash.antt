-- The variable-length hash function H' (RFC 9106, section 3.3).
use Rattle.std.specs.Prelude.{ℕ, zero, suc, ◌+◌, ◌-◌, ◌*◌, ◌/◌, ◌^◌, Result, Ok, Err, nat_lt, if◌then◌else◌, List, ◌++◌, take}
use Rattle.std.specs.List.{flat_map, range_with_len}
use Rattle.std.specs.Int.{w32, to_le_bytes}
use Rattle.std.specs.Borrow.{Bor}
use Rattle.argon2_base.specs.Blake2b.{blake2b}
use Rattle.argon2_base.specs.declared.error.Error.{Error}
use Rattle.argon2_base.specs.declared.error.Error.TheVariants.{OutputTooShort, OutputTooLong}

-- V_i for i above 0, over the input V_0: each is the digest of 64 bytes of the one before it
unfoldable pub chain : List ℕ → ℕ → List ℕ
chain first zero = first
chain first (suc i) = blake2b 64 (chain first i)

-- r for n bytes
abbrev pub half_count : ℕ → ℕ
half_count n = (n + 31) / 32 - 2

-- W_i: the first 32 bytes of V_i
abbrev pub half : List ℕ → ℕ → List ℕ
half first i = take 32 (chain first i)

-- W_1 || .. || W_r || V_(r+1), where V_(r+1) has n - 32 r bytes
abbrev pub pieces : ℕ → List ℕ → List ℕ
pieces n first =
    let r : ℕ = half_count n in
    flat_map (half first) (range_with_len 1 r) ++ blake2b (n - 32 * r) (chain first r)

-- H'^(n)(m): one digest if n is at most 64, else the pieces, each over the message with n before it
unfoldable pub long_hash : ℕ → List ℕ → List ℕ
long_hash n m =
    let first : List ℕ = to_le_bytes w32 n ++ m in
    if nat_lt 64 n then pieces n first else blake2b n first

-- the inputs joined
abbrev pub joined : List (Bor (List ℕ)) → List ℕ
joined inputs = flat_map (λ r. r.now) inputs

-- what is answered for an output of n bytes
abbrev pub long_answer : ℕ → Result (Unit {0}) Error
long_answer n =
    if nat_lt n 1 then Err OutputTooShort
    else (if nat_lt n (2 ^ 32) then Ok tt else Err OutputTooLong)
