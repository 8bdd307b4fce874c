-- The schedule and the rounds of FIPS 180-4, 6.2.2, sixteen at a time.
use Rattle.std.proofs.Common.{◌≡◌, ℕ, zero, suc, ◌+◌, ◌-◌, ◌*◌, ◌<◌, ◌≤◌, List, [], length, get_or, sym, refl, ap, ◌∙◌, add-zero, zero-add, add-suc, arith, lit<, subst}
use borrow.Author.Count.{below_more, below_none}
use Rattle.std.proofs.Math.ListN.{get_or-append}
use Rattle.std.proofs.Math.Seq.{get_or-append_seam}
use Rattle.std.proofs.lemmas.List.{length-append}
use Rattle.compression.specs.declared.Words.{Words}
use Rattle.compression.specs.Compression.{scheduled, next_word, extended, schedule, round, rounds, compressed, added}
use Rattle.compression.specs.Sixteens.{rounds_from, sixteen_rounds, Follows}

-- a round after others
pub round_after : (k w : ℕ) {x y z : Words} → x ≡ round k w y → y ≡ z → x ≡ round k w z
round_after k w e f = e ∙ ap (round k w) f

-- ---- the words of the schedule

length-extended : (b : List ℕ) (k : ℕ) → length (extended b k) ≡ length b + k
unfolding extended
length-extended b zero = sym (add-zero (length b))
length-extended b (suc k) =
    length-append (extended b k) _ ∙ (let h : length (extended b k) ≡ length b + k = length-extended b k in omega arith)

-- a word stays as it is where more words come
kept : (b : List ℕ) (k d j : ℕ) → j < length b + k → get_or (extended b (k + d)) j 0 ≡ get_or (extended b k) j 0
unfolding extended
kept b k zero j h = rw add-zero
kept b k (suc d) j h =
    rw (add-suc k d)
    (get_or-append (extended b (k + d)) _ 0 j (omega (arith, length-extended b (k + d))) ∙ kept b k d j h)

early : (b : List ℕ) (k j : ℕ) → k ≤ 48 → j < length b + k → get_or (schedule b) j 0 ≡ get_or (extended b k) j 0
unfolding schedule
early b k j h less =
    let e : 48 ≡ k + (48 - k) = omega arith in
    ap (λ (n : ℕ). get_or (extended b n) j 0) e ∙ kept b k (48 - k) j less

added_word : (b : List ℕ) (k j : ℕ) → j ≡ length b + k → get_or (extended b (suc k)) j 0 ≡ next_word (extended b k) (16 + k)
unfolding extended
added_word b k j e =
    ap (λ (n : ℕ). get_or (extended b (suc k)) n 0) (e ∙ sym (length-extended b k))
    ∙ get_or-append_seam (extended b k) (next_word (extended b k) (16 + k)) [] 0

-- a word n of the schedule, where the four words that it is made of stand at their places
follow : (b : List ℕ) (k : ℕ) {w x y z n : ℕ} → length b ≡ 16 → k < 48 → n ≡ scheduled w x y z
    → w ≡ get_or (schedule b) (k + 14) 0 → x ≡ get_or (schedule b) (k + 9) 0 → y ≡ get_or (schedule b) (k + 1) 0
    → z ≡ get_or (schedule b) k 0 → n ≡ get_or (schedule b) (k + 16) 0
follow b k l h e p q r s =
    let at : (i j : ℕ) → i ≡ j → i < k + 16 → get_or (schedule b) i 0 ≡ get_or (extended b k) j 0 =
    λ i j same less. early b k i (omega arith) (omega arith) ∙ ap (λ (n : ℕ). get_or (extended b k) n 0) same in
    e
    ∙ (λ i.
    scheduled
    ((p ∙ at (k + 14) (16 + k - 2) (omega arith) (omega arith)) i)
    ((q ∙ at (k + 9) (16 + k - 7) (omega arith) (omega arith)) i)
    ((r ∙ at (k + 1) (16 + k - 15) (omega arith) (omega arith)) i)
    ((s ∙ at k (16 + k - 16) (omega arith) (omega arith)) i))
    ∙ sym (added_word b k (k + 16) (omega arith))
    ∙ sym (early b (suc k) (k + 16) (omega arith) (omega arith))

-- w holds the sixteen words of the schedule from t on
abbrev pub IsSixteen : List ℕ → ℕ → List ℕ → Type 0
IsSixteen b t w = (m : ℕ) → m < 16 → get_or w m 0 ≡ get_or (schedule b) (t + m) 0

-- the sixteen words after them
next-sixteen : (b w x : List ℕ) (t : ℕ) → length b ≡ 16 → t ≤ 32 → IsSixteen b t w → Follows w x → IsSixteen b (t + 16) x
next-sixteen b w x t l h at f =
    let S : ℕ → ℕ = λ j. get_or (schedule b) j 0 in
    let to : (n i j : ℕ) → n ≡ S i → i ≡ j → n ≡ S j = λ n i j e same. e ∙ ap S same in
    let old : (m j : ℕ) → m < 16 → t + m ≡ j → get_or w m 0 ≡ S j = λ m j less same. to _ (t + m) j (at m less) same in
    let x0 : get_or x 0 0 ≡ S (t + 16) = follow b t l (omega arith) f.w0 (old 14 _ (lit< tt) (omega arith)) (old 9 _ (lit< tt) (omega arith)) (old 1 _ (lit< tt) (omega arith)) (old 0 _ (lit< tt) (omega arith)) in
    let x1 : get_or x 1 0 ≡ S (t + 1 + 16) = follow b (t + 1) l (omega arith) f.w1 (old 15 _ (lit< tt) (omega arith)) (old 10 _ (lit< tt) (omega arith)) (old 2 _ (lit< tt) (omega arith)) (old 1 _ (lit< tt) (omega arith)) in
    let x2 : get_or x 2 0 ≡ S (t + 2 + 16) = follow b (t + 2) l (omega arith) f.w2 (to _ _ _ x0 (omega arith)) (old 11 _ (lit< tt) (omega arith)) (old 3 _ (lit< tt) (omega arith)) (old 2 _ (lit< tt) (omega arith)) in
    let x3 : get_or x 3 0 ≡ S (t + 3 + 16) = follow b (t + 3) l (omega arith) f.w3 (to _ _ _ x1 (omega arith)) (old 12 _ (lit< tt) (omega arith)) (old 4 _ (lit< tt) (omega arith)) (old 3 _ (lit< tt) (omega arith)) in
    let x4 : get_or x 4 0 ≡ S (t + 4 + 16) = follow b (t + 4) l (omega arith) f.w4 (to _ _ _ x2 (omega arith)) (old 13 _ (lit< tt) (omega arith)) (old 5 _ (lit< tt) (omega arith)) (old 4 _ (lit< tt) (omega arith)) in
    let x5 : get_or x 5 0 ≡ S (t + 5 + 16) = follow b (t + 5) l (omega arith) f.w5 (to _ _ _ x3 (omega arith)) (old 14 _ (lit< tt) (omega arith)) (old 6 _ (lit< tt) (omega arith)) (old 5 _ (lit< tt) (omega arith)) in
    let x6 : get_or x 6 0 ≡ S (t + 6 + 16) = follow b (t + 6) l (omega arith) f.w6 (to _ _ _ x4 (omega arith)) (old 15 _ (lit< tt) (omega arith)) (old 7 _ (lit< tt) (omega arith)) (old 6 _ (lit< tt) (omega arith)) in
    let x7 : get_or x 7 0 ≡ S (t + 7 + 16) = follow b (t + 7) l (omega arith) f.w7 (to _ _ _ x5 (omega arith)) (to _ _ _ x0 (omega arith)) (old 8 _ (lit< tt) (omega arith)) (old 7 _ (lit< tt) (omega arith)) in
    let x8 : get_or x 8 0 ≡ S (t + 8 + 16) = follow b (t + 8) l (omega arith) f.w8 (to _ _ _ x6 (omega arith)) (to _ _ _ x1 (omega arith)) (old 9 _ (lit< tt) (omega arith)) (old 8 _ (lit< tt) (omega arith)) in
    let x9 : get_or x 9 0 ≡ S (t + 9 + 16) = follow b (t + 9) l (omega arith) f.w9 (to _ _ _ x7 (omega arith)) (to _ _ _ x2 (omega arith)) (old 10 _ (lit< tt) (omega arith)) (old 9 _ (lit< tt) (omega arith)) in
    let x10 : get_or x 10 0 ≡ S (t + 10 + 16) = follow b (t + 10) l (omega arith) f.w10 (to _ _ _ x8 (omega arith)) (to _ _ _ x3 (omega arith)) (old 11 _ (lit< tt) (omega arith)) (old 10 _ (lit< tt) (omega arith)) in
    let x11 : get_or x 11 0 ≡ S (t + 11 + 16) = follow b (t + 11) l (omega arith) f.w11 (to _ _ _ x9 (omega arith)) (to _ _ _ x4 (omega arith)) (old 12 _ (lit< tt) (omega arith)) (old 11 _ (lit< tt) (omega arith)) in
    let x12 : get_or x 12 0 ≡ S (t + 12 + 16) = follow b (t + 12) l (omega arith) f.w12 (to _ _ _ x10 (omega arith)) (to _ _ _ x5 (omega arith)) (old 13 _ (lit< tt) (omega arith)) (old 12 _ (lit< tt) (omega arith)) in
    let x13 : get_or x 13 0 ≡ S (t + 13 + 16) = follow b (t + 13) l (omega arith) f.w13 (to _ _ _ x11 (omega arith)) (to _ _ _ x6 (omega arith)) (old 14 _ (lit< tt) (omega arith)) (old 13 _ (lit< tt) (omega arith)) in
    let x14 : get_or x 14 0 ≡ S (t + 14 + 16) = follow b (t + 14) l (omega arith) f.w14 (to _ _ _ x12 (omega arith)) (to _ _ _ x7 (omega arith)) (old 15 _ (lit< tt) (omega arith)) (old 14 _ (lit< tt) (omega arith)) in
    let x15 : get_or x 15 0 ≡ S (t + 15 + 16) = follow b (t + 15) l (omega arith) f.w15 (to _ _ _ x13 (omega arith)) (to _ _ _ x8 (omega arith)) (to _ _ _ x0 (omega arith)) (old 15 _ (lit< tt) (omega arith)) in
    let P : ℕ → Type 0 = λ m. get_or x m 0 ≡ S (t + 16 + m) in
    below_more P 15 (below_more P 14 (below_more P 13 (below_more P 12 (below_more P 11 (below_more P 10 (below_more P 9 (below_more P 8 (below_more P 7 (below_more P 6 (below_more P 5 (below_more P 4 (below_more P 3 (below_more P 2 (below_more P 1 (below_more P 0 (below_none P) (to _ _ _ x0 (omega arith))) (to _ _ _ x1 (omega arith))) (to _ _ _ x2 (omega arith))) (to _ _ _ x3 (omega arith))) (to _ _ _ x4 (omega arith))) (to _ _ _ x5 (omega arith))) (to _ _ _ x6 (omega arith))) (to _ _ _ x7 (omega arith))) (to _ _ _ x8 (omega arith))) (to _ _ _ x9 (omega arith))) (to _ _ _ x10 (omega arith))) (to _ _ _ x11 (omega arith))) (to _ _ _ x12 (omega arith))) (to _ _ _ x13 (omega arith))) (to _ _ _ x14 (omega arith))) (to _ _ _ x15 (omega arith))

-- ---- the rounds

rounds-sixteen : (b w : List ℕ) (t : ℕ) (v : Words) (k : ℕ) → k ≤ 16 → IsSixteen b t w
    → rounds_from t w k (rounds (schedule b) t v) ≡ rounds (schedule b) (t + k) v
unfolding rounds
rounds-sixteen b w t v zero h at = rw add-zero
rounds-sixteen b w t v (suc k) h at =
    rw (add-suc t k, at k (omega arith), rounds-sixteen b w t v k (omega arith) at)

-- ---- the loop

-- the working variables after i times sixteen rounds, and the sixteen words that come then
pub record Reached (old : Words) (block : List ℕ) (i : ℕ) (v : Words) (w : List ℕ) : Type 0 where
  pub words : v ≡ rounds (schedule block) (16 * i) old
  pub next : IsSixteen block (16 * i) w
  pub room : length block ≡ 16

pub reached_start : (old : Words) (block : List ℕ) → length block ≡ 16 → Reached old block 0 old block
unfolding rounds extended
reached_start old block l = record {
  words = refl;
  next = λ m h. sym (ap (λ (n : ℕ). get_or (schedule block) n 0) (zero-add m) ∙ early block 0 m (omega arith) (omega arith));
  room = l;
}

pub reached_more : (old : Words) (block : List ℕ) (i : ℕ) (v x : Words) (w y : List ℕ) → Reached old block i v w → i < 3
    → x ≡ sixteen_rounds (16 * i) w v → Follows w y → Reached old block (i + 1) x y
unfolding sixteen_rounds
reached_more old block i v x w y r h e f =
    let more : 16 * i + 16 ≡ 16 * (i + 1) = omega arith in
    record {
      words = e ∙ ap (rounds_from (16 * i) w 16) r.words ∙ rounds-sixteen block w (16 * i) old 16 (omega arith) r.next
          ∙ ap (λ (n : ℕ). rounds (schedule block) n old) more;
      next = subst (λ (n : ℕ). IsSixteen block n y) more (next-sixteen block w y (16 * i) r.room (omega arith) r.next f);
      room = r.room;
    }

pub reached_end : (old : Words) (block : List ℕ) (i : ℕ) (v x : Words) (w : List ℕ) → Reached old block i v w → i ≡ 3
    → x ≡ sixteen_rounds 48 w v → added x old ≡ compressed old block
unfolding sixteen_rounds compressed
reached_end old block i v x w reached end e =
    let r : Reached old block 3 v w = subst (λ (n : ℕ). Reached old block n v w) end reached in
    ap (λ (u : Words). added u old)
    (e ∙ ap (rounds_from 48 w 16) r.words ∙ rounds-sixteen block w 48 old 16 (omega arith) r.next)
