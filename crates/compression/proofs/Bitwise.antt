-- Ch, Maj and T1 in fewer operations, or in another order, than FIPS 180-4 writes them with.
use Rattle.std.proofs.Common.{◌≡◌, ℕ, zero, suc, ◌+◌, ◌-◌, ◌*◌, ◌/◌, ◌%◌, ◌^◌, ◌<◌, sym, refl, ap, ◌∙◌, arith}
use lib.Bits.{bit_and, bit_xor, and_shr, and_mod, xor_shr, xor_mod}
use lib.Arith.{digits_div, digits_mod}
use Rattle.compression.specs.Words.{sum, ch, maj}

-- ---- operations on three words that go bit by bit

record Bitwise (f : ℕ → ℕ → ℕ → ℕ) : Type 0 where
  half : (x y z : ℕ) → f x y z / 2 ≡ f (x / 2) (y / 2) (z / 2)
  low : (x y z : ℕ) → f x y z % 2 ≡ f (x % 2) (y % 2) (z % 2)

first : Bitwise (λ x y z. x)
first = record { half = λ x y z. refl; low = λ x y z. refl }

second : Bitwise (λ x y z. y)
second = record { half = λ x y z. refl; low = λ x y z. refl }

third : Bitwise (λ x y z. z)
third = record { half = λ x y z. refl; low = λ x y z. refl }

anded : (f g : ℕ → ℕ → ℕ → ℕ) → Bitwise f → Bitwise g → Bitwise (λ x y z. bit_and (f x y z) (g x y z))
anded f g p q =
    record {
      half = λ x y z. and_shr (f x y z) (g x y z) 1 ∙ rw (p.half x y z, q.half x y z);
      low = λ x y z. and_mod (f x y z) (g x y z) 1 ∙ rw (p.low x y z, q.low x y z);
    }

xored : (f g : ℕ → ℕ → ℕ → ℕ) → Bitwise f → Bitwise g → Bitwise (λ x y z. bit_xor (f x y z) (g x y z))
xored f g p q =
    record {
      half = λ x y z. xor_shr (f x y z) (g x y z) 1 ∙ rw (p.half x y z, q.half x y z);
      low = λ x y z. xor_mod (f x y z) (g x y z) 1 ∙ rw (p.low x y z, q.low x y z);
    }

on_bit : (P : ℕ → Type 0) → P 0 → P 1 → (x : ℕ) → x < 2 → P x
on_bit P a b zero h = a
on_bit P a b (suc zero) h = b
on_bit P a b (suc (suc x)) h = absurd (omega arith)

halves : (m n : ℕ) → m / 2 ≡ n / 2 → m % 2 ≡ n % 2 → m ≡ n
halves m n h l = omega arith

-- two of them agree on words where they agree on bits
module _ (f g : ℕ → ℕ → ℕ → ℕ) (p : Bitwise f) (q : Bitwise g)
    (e₀ : f 0 0 0 ≡ g 0 0 0) (e₁ : f 0 0 1 ≡ g 0 0 1) (e₂ : f 0 1 0 ≡ g 0 1 0) (e₃ : f 0 1 1 ≡ g 0 1 1)
    (e₄ : f 1 0 0 ≡ g 1 0 0) (e₅ : f 1 0 1 ≡ g 1 0 1) (e₆ : f 1 1 0 ≡ g 1 1 0) (e₇ : f 1 1 1 ≡ g 1 1 1) where
  on-bits : (x y z : ℕ) → x < 2 → y < 2 → z < 2 → f x y z ≡ g x y z
  on-bits x y z a b c =
      on_bit (λ n. f n y z ≡ g n y z)
      (on_bit (λ n. f 0 n z ≡ g 0 n z)
      (on_bit (λ n. f 0 0 n ≡ g 0 0 n) e₀ e₁ z c) (on_bit (λ n. f 0 1 n ≡ g 0 1 n) e₂ e₃ z c) y b)
      (on_bit (λ n. f 1 n z ≡ g 1 n z)
      (on_bit (λ n. f 1 0 n ≡ g 1 0 n) e₄ e₅ z c) (on_bit (λ n. f 1 1 n ≡ g 1 1 n) e₆ e₇ z c) y b)
      x a

  agree : (k x y z : ℕ) → x < 2 ^ k → y < 2 ^ k → z < 2 ^ k → f x y z ≡ g x y z
  agree zero x y z a b c = on-bits x y z (omega arith) (omega arith) (omega arith)
  agree (suc k) x y z a b c =
      halves (f x y z) (g x y z)
      (p.half x y z ∙ agree k (x / 2) (y / 2) (z / 2) (omega arith) (omega arith) (omega arith) ∙ sym (q.half x y z))
      (p.low x y z ∙ on-bits (x % 2) (y % 2) (z % 2) (omega arith) (omega arith) (omega arith) ∙ sym (q.low x y z))

-- ---- Maj

pub maj_shared : (x y z : ℕ) → x < 2 ^ 32 → y < 2 ^ 32 → z < 2 ^ 32
    → bit_xor y (bit_and (bit_xor x y) (bit_xor y z)) ≡ maj x y z
maj_shared =
    agree (λ x y z. bit_xor y (bit_and (bit_xor x y) (bit_xor y z))) maj
    (xored _ _ second (anded _ _ (xored _ _ first second) (xored _ _ second third)))
    (xored _ _ (xored _ _ (anded _ _ first second) (anded _ _ first third)) (anded _ _ second third))
    refl refl refl refl refl refl refl refl 32

-- ---- Ch

complement-bit : (x z : ℕ) → x < 2 → z < 2 → bit_and (1 - x) z ≡ bit_xor z (bit_and x z)
complement-bit x z a b =
    on_bit (λ n. bit_and (1 - n) z ≡ bit_xor z (bit_and n z))
    (on_bit (λ n. bit_and 1 n ≡ bit_xor n (bit_and 0 n)) refl refl z b)
    (on_bit (λ n. bit_and 0 n ≡ bit_xor n (bit_and 1 n)) refl refl z b)
    x a

-- the digits of a complement, of base 2
complement-digits : (k x : ℕ) → x < 2 ^ suc k → 2 ^ suc k - 1 - x ≡ (2 ^ k - 1 - x / 2) * 2 + (1 - x % 2)
complement-digits k x h = omega arith

-- x complemented within k bits, and z
complement-and : (k x z : ℕ) → x < 2 ^ k → z < 2 ^ k → bit_and (2 ^ k - 1 - x) z ≡ bit_xor z (bit_and x z)
complement-and zero x z a b =
    let p : x ≡ 0 = omega arith in
    let q : z ≡ 0 = omega arith in
    rw (p, q) refl
complement-and (suc k) x z a b =
    let bit : 1 - x % 2 < 2 = omega arith in
    let e : 2 ^ suc k - 1 - x ≡ (2 ^ k - 1 - x / 2) * 2 + (1 - x % 2) = complement-digits k x a in
    let high : (2 ^ suc k - 1 - x) / 2 ≡ 2 ^ k - 1 - x / 2 = ap (λ (n : ℕ). n / 2) e ∙ digits_div (2 ^ k - 1 - x / 2) bit in
    let low : (2 ^ suc k - 1 - x) % 2 ≡ 1 - x % 2 = ap (λ (n : ℕ). n % 2) e ∙ digits_mod (2 ^ k - 1 - x / 2) bit in
    halves (bit_and (2 ^ suc k - 1 - x) z) (bit_xor z (bit_and x z))
    (and_shr (2 ^ suc k - 1 - x) z 1 ∙ rw high (complement-and k (x / 2) (z / 2) (omega arith) (omega arith))
    ∙ sym ((xored _ _ third (anded _ _ first third)).half x 0 z))
    (and_mod (2 ^ suc k - 1 - x) z 1 ∙ rw low (complement-bit (x % 2) (z % 2) (omega arith) (omega arith))
    ∙ sym ((xored _ _ third (anded _ _ first third)).low x 0 z))

pub ch_shared : (x y z : ℕ) → x < 2 ^ 32 → y < 2 ^ 32 → z < 2 ^ 32 → bit_xor z (bit_and x (bit_xor y z)) ≡ ch x y z
ch_shared x y z a b c =
    agree (λ x y z. bit_xor z (bit_and x (bit_xor y z))) (λ x y z. bit_xor (bit_and x y) (bit_xor z (bit_and x z)))
    (xored _ _ third (anded _ _ first (xored _ _ second third)))
    (xored _ _ (anded _ _ first second) (xored _ _ third (anded _ _ first third)))
    refl refl refl refl refl refl refl refl 32 x y z a b c
    ∙ ap (bit_xor (bit_and x y)) (sym (complement-and 32 x z a c))

-- ---- T1: the sum of a constant and a word does not wait for the round before

sum_left : (x y : ℕ) → (x % 2 ^ 32 + y) % 2 ^ 32 ≡ (x + y) % 2 ^ 32
sum_left x y = omega arith

sum-right : (x y : ℕ) → (x + y % 2 ^ 32) % 2 ^ 32 ≡ (x + y) % 2 ^ 32
sum-right x y = omega arith

sum-five : (a b c d e : ℕ) → sum (sum (sum (sum a b) c) d) e ≡ (a + b + c + d + e) % 2 ^ 32
sum-five a b c d e = rw (sum_left (a + b) c, sum_left (a + b + c) d, sum_left (a + b + c + d) e)

pub t1_early : (h s c k w : ℕ) → sum (sum (sum h (sum k w)) c) s ≡ sum (sum (sum (sum h s) c) k) w
t1_early h s c k w =
    rw (sum-right h (k + w), sum_left (h + (k + w)) c, sum_left (h + (k + w) + c) s)
    (ap (λ (n : ℕ). n % 2 ^ 32) (omega arith) ∙ sym (sum-five h s c k w))
