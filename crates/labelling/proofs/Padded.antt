-- The buffer of a label, padded where its input lies (FIPS 180-4, 5.1.1).
use mathlib.Core.Path.{◌≡◌, refl, sym, ap, ◌∙◌}
use mathlib.Core.List.{List, [], ◌∷◌, ◌++◌}
use Prim.Native.Nat.{ℕ, ◌+◌, ◌-◌, ◌*◌, ◌≤◌}
use native.Mathlib.Omega.{arith}
use lib.ListN.{length, take, drop, length-append, length-take, length-replicate, take-append-drop}
use lib.Seq.{length-take-le, drop-append-add}
use Rattle.base.specs.Limits.{max_label_input}
use Rattle.base.specs.Bytes.{big_endian, zeros, written}
use Rattle.base.proofs.BytesLaws.{length-big_endian}
use Rattle.base.proofs.Copying.{length-written}
use Rattle.base.proofs.WrittenLaws.{drop-written}
use Rattle.base.proofs.Zeros.{drop-zeros}
use Rattle.sha256.specs.Padding.{padding, padded, blocks, blocks_of}
use Rattle.compression.specs.Constants.{initial}
use Rattle.sha256.specs.Digest.{hash_after, digest_of, digest}
use Rattle.sha256.proofs.Padded.{padded_size, padded-front}
use Rattle.labelling.specs.Buffer.{padded_in, input_space}

-- the buffer of a label: at most 1,321 bytes in front of zeros
module _ (input : List ℕ) (len : ℕ) (small : len ≤ max_label_input) (front : input ≡ take len input ++ zeros (input_space - len)) where
  pub length_front : length input ≡ input_space
  length_front = omega (arith, simp (length-append, length-take, length-replicate) at (ap length front))

  abbrev laid : List ℕ
  laid = written (written input len (128 ∷ [])) (padded_size len - 8) (big_endian 8 (8 * len))

  abbrev whole_blocks : List ℕ
  whole_blocks = take (padded_size len) laid

  padded-buffer : whole_blocks ≡ padded (take len input)
  unfolding padded
  padded-buffer =
      let n : length (take len input) ≡ len = length-take len input ∙ omega (arith, length_front) in
      ap
      (λ (l : List ℕ). take (padded_size len) (written (written l len (128 ∷ [])) (padded_size len - 8) (big_endian 8 (8 * len))))
      front
      ∙ padded-front (take len input) len len (input_space - len) n refl (omega arith)
      ∙ ap (λ (k : ℕ). take len input ++ padding k) (sym n)

  pub hashed-front : digest_of (hash_after initial whole_blocks (blocks whole_blocks)) ≡ digest (take len input)
  unfolding digest
  hashed-front = rw padded-buffer

  -- the zeros behind the blocks are not touched
  zeros-behind : drop (padded_size len) laid ≡ zeros (input_space - padded_size len)
  zeros-behind =
      let n : length (take len input) ≡ len = length-take len input ∙ omega (arith, length_front) in
      let marked : length (written input len (128 ∷ [])) ≡ input_space =
      length-written input len (128 ∷ []) (omega (arith, length_front)) ∙ length_front in
      let bits : length (big_endian 8 (8 * len)) ≡ 8 = length-big_endian 8 (8 * len) in
      let at : length (take len input) + (padded_size len - len) ≡ padded_size len = omega arith in
      let rest : input_space - len - (padded_size len - len) ≡ input_space - padded_size len = omega arith in
      drop-written (written input len (128 ∷ [])) (big_endian 8 (8 * len)) (padded_size len - 8) (padded_size len) (omega arith) (omega arith)
      ∙ drop-written input (128 ∷ []) len (padded_size len) (omega (arith, length_front)) (omega arith)
      ∙ ap (λ (l : List ℕ). drop (padded_size len) l) front
      ∙ ap (λ (k : ℕ). drop k (take len input ++ zeros (input_space - len))) (sym at)
      ∙ drop-append-add (take len input) (zeros (input_space - len)) (padded_size len - len)
      ∙ drop-zeros (input_space - len) (padded_size len - len) (omega arith)
      ∙ ap zeros rest

  pub laid-padded : laid ≡ padded_in input_space (take len input)
  laid-padded =
      let marked : length (written input len (128 ∷ [])) ≡ input_space =
      length-written input len (128 ∷ []) (omega (arith, length_front)) ∙ length_front in
      let bits : length (big_endian 8 (8 * len)) ≡ 8 = length-big_endian 8 (8 * len) in
      let whole : length laid ≡ input_space =
      length-written (written input len (128 ∷ [])) (padded_size len - 8) (big_endian 8 (8 * len)) (omega arith) ∙ marked in
      let size : length (padded (take len input)) ≡ padded_size len =
      ap length (sym padded-buffer) ∙ length-take-le (padded_size len) laid (omega arith) in
      sym (take-append-drop (padded_size len) laid) ∙ rw (zeros-behind, padded-buffer, size)

  -- what is hashed and what is left, with each part as the code makes it
  pub hashed-laid : {n : ℕ} {bits marked all r : List ℕ} → n ≡ blocks_of len → bits ≡ big_endian 8 (8 * len)
      → marked ≡ written input len (128 ∷ []) → all ≡ written marked (64 * n - 8) bits
      → r ≡ digest_of (hash_after initial (take (64 * n) all) (blocks (take (64 * n) all)))
      → (r ≡ digest (take len input)) × (all ≡ padded_in input_space (take len input))
  hashed-laid count bits_are marked-is all-is r-is =
      let e = all-is ∙ (λ i. written (marked-is i) (64 * count i - 8) (bits_are i)) in (
        r-is
            ∙ (λ i. let m : List ℕ = take (64 * count i) (e i) in digest_of (hash_after initial m (blocks m)))
            ∙ hashed-front,
        e ∙ laid-padded,
      )
