-- Where the parts of a list lie in it, and the words of a block in its bytes.
use Rattle.std.proofs.Common.{◌≡◌, ℕ, zero, suc, ◌+◌, ◌*◌, ◌<◌, List, get_or, take, drop, map, ap, ◌∙◌, add-zero, mul-zero, arith, lit<}
use Rattle.std.proofs.lemmas.List.{get_or-take, get_or-drop}
use Rattle.std.proofs.Math.Seq.{drop-drop}
use Rattle.std.specs.Int.{w32, from_be_bytes}
use Rattle.std.specs.List.{range_with_len}
use Rattle.std.specs.Simd.{first_chunks}
use Rattle.sha256.specs.Padding.{word_at, words}

-- one of the parts of n elements
pub get_or-first_chunks : {X : Type 0} (n k : ℕ) (xs : List X) (i : ℕ) (d : List X) → i < k
    → get_or (first_chunks n k xs) i d ≡ take n (drop (n * i) xs)
get_or-first_chunks n zero xs i d h = absurd (omega arith)
get_or-first_chunks n (suc k) xs zero d h = rw mul-zero
get_or-first_chunks n (suc k) xs (suc i) d h =
    get_or-first_chunks n k (drop n xs) i d (omega arith) ∙ ap (take n) (drop-drop (n * i) n xs ∙ ap (λ (j : ℕ). drop j xs) (omega arith))

-- four bytes of a list as a word
pub word-from : (b p : List ℕ) (j : ℕ) → p ≡ take 4 (drop j b) → from_be_bytes w32 p ≡ word_at b j
word-from b p j e =
    let at : (i : ℕ) → i < 4 → get_or p i 0 ≡ get_or b (j + i) 0 =
    λ i h. rw e (get_or-take 4 (drop j b) i 0 h ∙ get_or-drop j b i 0) in
    let first : get_or p 0 0 ≡ get_or b j 0 = at 0 (lit< tt) ∙ rw add-zero in
    rw (← at 1 (lit< tt), ← at 2 (lit< tt), ← at 3 (lit< tt), ← first) (omega arith)

pub words-mapped : (b : List ℕ) → words 16 b ≡ map (λ k. word_at b (4 * k)) (range_with_len 0 16)
unfolding words
words-mapped b = simp (drop-drop, get_or-drop)
