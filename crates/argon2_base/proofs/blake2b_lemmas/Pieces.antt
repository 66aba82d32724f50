-- How the output of the hash of any length grows piece by piece.
use Rattle.argon2_base.proofs.Imports.{◌≡◌, ℕ, zero, suc, ◌+◌, ◌<◌, ◌≤◌, List, ◌++◌, ◌^◌, length, take, slice_index_or, refl, arith, add-one, add-zero, le-ltb, drop_all, take_at}
use Rattle.argon2_base.proofs.Imports.{take-put_mid, flat_map, range_with_len, blake2b, chain, half, joined, long_hash, Bor, w32, to_le_bytes, length-flat_map-take}
use Rattle.std.proofs.lemmas.List.{append-nil, append_assoc}

-- the first i halves
abbrev pub first_halves : List ℕ → ℕ → List ℕ
first_halves first i = flat_map (half first) (range_with_len 1 i)

-- one more of the lists at the numbers from a on is appended
flat_map_more : (f : ℕ → List ℕ) (a n m : ℕ) → a + n ≡ m
    → flat_map f (range_with_len a (suc n)) ≡ flat_map f (range_with_len a n) ++ f m
flat_map_more f a zero m e = rw (← e, add-zero) (append-nil (f a))
flat_map_more f a (suc n) m e = rw (flat_map_more f (a + 1) n m (omega arith), append_assoc) refl

-- one half more is appended
pub halves_next : (first : List ℕ) (i : ℕ) → first_halves first (i + 1) ≡ first_halves first i ++ half first (i + 1)
halves_next first i = rw add-one (flat_map_more (half first) 1 i (suc i) (omega arith))

-- each digest is the digest of the digest before it
pub chain_next : (first : List ℕ) (i : ℕ) → chain first (i + 1) ≡ blake2b 64 (chain first i)
unfolding chain
chain_next first i = rw add-one refl

-- the first half is written
pub first_written : (ys rest : List ℕ) → length ys ≡ 32 → take 32 (ys ++ rest) ≡ ys
first_written ys rest len = take_at ys rest 32 len

-- how the output grows
pub ruleset piece_steps = (first_written, halves_next, chain_next, append-nil, take-put_mid, drop_all)

-- one more input keeps the message's length in range
pub input_fits : (inputs : List (Bor (List ℕ))) (i n : ℕ) (d : Bor (List ℕ)) → i < length inputs
    → n ≡ length (joined (take i inputs)) + 4 → length (joined inputs) + 4 < 2 ^ 128
    → n + length (slice_index_or inputs i d).now < 2 ^ 128
input_fits inputs i n d lt e fits =
    let more : length (joined (take i inputs)) + length (slice_index_or inputs i d).now
    ≤ length (joined inputs) = length-flat_map-take (λ (r : Bor (List ℕ)). r.now) inputs i d lt in
    omega arith

-- an output of at most 64 bytes is one digest
pub long_hash_short : (n : ℕ) (m out : List ℕ) → n ≤ 64 → out ≡ blake2b n (to_le_bytes w32 n ++ m) → out ≡ long_hash n m
unfolding long_hash
long_hash_short n m out small eo = rw (le-ltb 64 n small, eo) refl
