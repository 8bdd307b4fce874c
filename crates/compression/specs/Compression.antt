-- FIPS 180-4, section 6.2.2: the eight new hash words, over the eight old ones and the sixteen words of a block alone.
use Rattle.std.specs.Prelude.{ℕ, zero, suc, ◌+◌, ◌-◌, List, [], ◌∷◌, ◌++◌, slice_index}
use Rattle.compression.specs.declared.Words.{Words}
use Rattle.compression.specs.Words.{sum, ch, maj, big_sigma0, big_sigma1, sigma0, sigma1}
use Rattle.compression.specs.Constants.{constant}

-- step 1, for t from 16: W_t from W_(t−2), W_(t−7), W_(t−15) and W_(t−16)
unfoldable pub scheduled : ℕ → ℕ → ℕ → ℕ → ℕ
scheduled a b c d = sum (sum (sum (sigma1 a) b) (sigma0 c)) d

-- W_t from the t words before it
abbrev pub next_word : List ℕ → ℕ → ℕ
next_word w t = scheduled (slice_index w (t - 2)) (slice_index w (t - 7)) (slice_index w (t - 15)) (slice_index w (t - 16))

-- the words with k more
unfoldable pub extended : List ℕ → ℕ → List ℕ
extended block zero = block
extended block (suc k) = extended block k ++ next_word (extended block k) (16 + k) ∷ []

-- step 1: the message schedule W_0 .. W_63
unfoldable pub schedule : List ℕ → List ℕ
schedule block = extended block 48

-- step 3: one round on the working variables, with K_t and W_t
unfoldable pub round : ℕ → ℕ → Words → Words
round k w v =
    let t1 : ℕ = sum (sum (sum (sum v.h (big_sigma1 v.e)) (ch v.e v.f v.g)) k) w in
    let t2 : ℕ = sum (big_sigma0 v.a) (maj v.a v.b v.c) in
    record { a = sum t1 t2; b = v.a; c = v.b; d = v.c; e = sum v.d t1; f = v.e; g = v.f; h = v.g }

-- steps 2 and 3: the working variables after the rounds 0 to t − 1
unfoldable pub rounds : List ℕ → ℕ → Words → Words
rounds w zero v = v
rounds w (suc t) v = round (constant t) (slice_index w t) (rounds w t v)

-- step 4: the sums with the old hash words
abbrev pub added : Words → Words → Words
added x y =
    record {
      a = sum x.a y.a;
      b = sum x.b y.b;
      c = sum x.c y.c;
      d = sum x.d y.d;
      e = sum x.e y.e;
      f = sum x.f y.f;
      g = sum x.g y.g;
      h = sum x.h y.h;
    }

-- the eight new hash words
unfoldable pub compressed : Words → List ℕ → Words
compressed old block = added (rounds (schedule block) 64 old) old
