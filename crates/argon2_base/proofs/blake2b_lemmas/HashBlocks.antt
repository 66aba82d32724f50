-- The fold over all blocks of a message: the blocks before the last, and then the last.
use Rattle.argon2_base.proofs.Imports.{common_steps, ◌≡◌, ℕ, zero, suc, ◌+◌, ◌-◌, ◌*◌, ◌≤◌, min, true, false, List, [], ◌∷◌, ◌++◌, length, take, drop, replicate, refl, ◌∙◌, arith, add-zero}
use Rattle.argon2_base.proofs.Imports.{take_all, drop-drop, block_count, blocks, compress, hash_blocks, hash_after, blocks_before}
use Rattle.std.specs.Simd.{first_chunks}
use Rattle.argon2_base.proofs.blake2b_lemmas.Absorbing.{held, IsAbsorbed, hash_after-append, hash_after_next}

-- one block is the last
hash_blocks_one : (l t : ℕ) (h b : List ℕ) → hash_blocks l t h (b ∷ []) ≡ compress h b (min (t + 128) l) true
unfolding hash_blocks
hash_blocks_one l t h b = refl

-- the first of more is not
hash_blocks_more : (l t : ℕ) (h b c : List ℕ) (bs : List (List ℕ)) → hash_blocks l t h (b ∷ c ∷ bs)
    ≡ hash_blocks l (t + 128) (compress h b (min (t + 128) l) false) (c ∷ bs)
unfolding hash_blocks
hash_blocks_more l t h b c bs = refl

-- after k blocks of p, with j between them and the last
hash_blocks_from : (l : ℕ) (i p : List ℕ) (k j : ℕ) → (k + j) * 128 ≤ l
    → hash_blocks l (k * 128) (hash_after i p k) (first_chunks 128 (suc j) (drop (k * 128) p))
    ≡ compress (hash_after i p (k + j)) (take 128 (drop ((k + j) * 128) p)) (min ((k + j) * 128 + 128) l) true
hash_blocks_from l i p k zero h = hash_blocks_one l (k * 128) _ _ ∙ rw add-zero refl
hash_blocks_from l i p k (suc j) h =
    let rest = hash_blocks_from l i p (k + 1) j (omega arith) in
    let next = hash_after_next i p k in
    let along = drop-drop 128 (k * 128) p in
    grind (arith, hash_blocks_more)

-- the last block x is the bytes that are held, and zeros
pub hash_blocks_whole : (i m b x h : List ℕ) → IsAbsorbed i h b m
    → x ≡ take (held m) b ++ replicate (128 - held m) 0
    → compress h x (length m) true ≡ hash_blocks (length m) 0 i (blocks m)
unfolding hash_after
hash_blocks_whole i m b x h a ex =
    let l : ℕ = length m in
    let q : ℕ = blocks_before l in
    let zeros : List ℕ = replicate (128 * suc q - l) 0 in
    let n : block_count l ≡ suc q = omega arith in
    let clock : min (q * 128 + 128) l ≡ l = omega arith in
    let kept = hash_after-append i m zeros q (omega arith) in
    let whole = hash_blocks_from l i (m ++ zeros) 0 q (omega arith) in
    let block = take_all 128 x (grind (arith, common_steps)) in
    grind (arith, common_steps)
