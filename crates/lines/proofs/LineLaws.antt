-- Parts added one after the other.
use mathlib.Core.Path.{◌≡◌, refl, sym, ap, ◌∙◌}
use Prim.Native.Nat.{ℕ, ◌+◌, ◌*◌, ◌-◌, ◌/◌, ◌%◌, ◌≤◌, ◌<◌, min}
use native.Mathlib.Numerals.{add-one}
use native.Mathlib.Omega.{arith}
use mathlib.Core.Bool.{Bool, true, false}
use mathlib.Core.Logic.{◌⊎◌, inl, inr}
use mathlib.Core.List.{List, [], ◌∷◌, ◌++◌, append_assoc, append-nil}
use lib.Dec.{ltb, leb}
use lib.ListN.{length, get_or, take, drop, length-append, drop_of_length-le}
use lib.Seq.{take_at, take_all, drop-cons, length-take-le}
use borrow.Author.Tests.{le-leb, lt-leb}
use Rattle.base.specs.Choice.{pick}
use Rattle.base.specs.Bytes.{written}
use Rattle.base.proofs.ChoiceLaws.{lt-or-le}
use Rattle.decimal.specs.Ascii.{ascii}
use Rattle.decimal.specs.Text.{decimal, field}
use Rattle.decimal.proofs.Laying.{decimal-short}
use Rattle.lines.specs.Line.{added, hex_byte, hex_of, added_hex, shown_byte, added_byte, added_name}
use Rattle.lines.specs.Texts.{two_text, three_text, percent_of, duration_text, share_text, pace_text}

pub added-fits : (line part : List ℕ) → length line + length part ≤ 8192 → added line part ≡ line ++ part
unfolding added
added-fits line part h = rw (le-leb (length line + length part) 8192 h)

-- what fits is written behind the line
pub laid : (text part after : List ℕ) (at : ℕ) → length text ≡ 8192 → at ≤ 8192 → length part ≤ 8192 - at → after ≡ written text at part
    → take (at + length part) after ≡ added (take at text) part
unfolding written
laid text part after at l h k e =
    let n : length (take at text) ≡ at = length-take-le at text (omega arith) in
    rw (added-fits (take at text) part (omega arith), e)
    (take_at (take at text ++ part) (drop (at + length part) text) (at + length part)
    (length-append (take at text) part ∙ ap (λ (k : ℕ). k + length part) n))

-- what does not fit changes nothing
pub laid_none : (text part : List ℕ) (at : ℕ) → length text ≡ 8192 → 8192 < at → take at text ≡ added (take at text) part
unfolding added
laid_none text [] at l h = go (leb (length (take at text) + length {A = ℕ} []) 8192)
  where
    go : (t : Bool) → take at text ≡ pick t (take at text ++ []) (take at text)
    go true = sym (append-nil (take at text))
    go false = refl
laid_none text (b ∷ part) at l h =
    let whole : take at text ≡ text = take_all at text (omega arith) in
    let size : length (take at text) ≡ 8192 = ap length whole ∙ l in
    rw (lt-leb (length (take at text) + length (b ∷ part)) 8192 (omega arith))

pub laid-full : (text part : List ℕ) (at : ℕ) → length text ≡ 8192 → at ≤ 8192 → 8192 - at < length part → take at text ≡ added (take at text) part
unfolding added
laid-full text part at l h k =
    let n : length (take at text) ≡ at = length-take-le at text (omega arith) in
    rw (lt-leb (length (take at text) + length part) 8192 (omega arith))

-- what the line holds, however large its length is
pub held : (text : List ℕ) (at end : ℕ) → length text ≡ 8192 → end ≡ min at 8192 → take end text ≡ take at text
held text at end l e = go (lt-or-le 8192 at)
  where
    go : (8192 < at) ⊎ (at ≤ 8192) → take end text ≡ take at text
    go (inl over) = take_all end text (omega arith) ∙ sym (take_all at text (omega arith))
    go (inr within) = let same : end ≡ at = omega arith in ap (λ (k : ℕ). take k text) same

-- hexadecimal
pub hex-turn :
    (line bytes : List ℕ) (i : ℕ) → i < length bytes
    → added_hex line (drop i bytes) ≡ added_hex (added line (hex_byte (get_or bytes i 0))) (drop (i + 1) bytes)
hex-turn line bytes i h = rw (add-one i, drop-cons bytes i 0 h) (unfold added_hex in refl)

pub hex-end : (line bytes : List ℕ) (i : ℕ) → length bytes ≤ i → added_hex line (drop i bytes) ≡ line
hex-end line bytes i h = rw (drop_of_length-le bytes h) (unfold added_hex in refl)

pub length-hex : (bytes : List ℕ) → length (hex_of bytes) ≡ 2 * length bytes
unfolding hex_of hex_byte
length-hex [] = refl
length-hex (b ∷ bytes) = omega (arith, length-hex bytes)

length-pair : (b : ℕ) → length (hex_byte b) ≡ 2
unfolding hex_byte
length-pair b = refl

pub hex-fits : (line bytes : List ℕ) → length line + 2 * length bytes ≤ 8192 → added_hex line bytes ≡ line ++ hex_of bytes
unfolding added_hex hex_of
hex-fits line [] h = sym (append-nil line)
hex-fits line (b ∷ bytes) h =
    let size : length (line ++ hex_byte b) ≡ length line + 2 = length-append line (hex_byte b) ∙ ap (λ (k : ℕ). length line + k) (length-pair b) in
    let pair : length (hex_byte b) ≡ 2 = length-pair b in
    ap (λ (l : List ℕ). added_hex l bytes) (added-fits line (hex_byte b) (omega arith))
    ∙ hex-fits (line ++ hex_byte b) bytes (omega arith)
    ∙ append_assoc line (hex_byte b) (hex_of bytes)

-- a name, byte by byte
pub name-turn :
    (line name : List ℕ) (i : ℕ) → i < length name
    → added_name line (drop i name) ≡ added_name (added_byte line (get_or name i 0)) (drop (i + 1) name)
name-turn line name i h = rw (add-one i, drop-cons name i 0 h) (unfold added_name in refl)

pub name-end : (line name : List ℕ) (i : ℕ) → length name ≤ i → added_name line (drop i name) ≡ line
name-end line name i h = rw (drop_of_length-le name h) (unfold added_name in refl)

-- a byte of a name where it has no room, and where it has
pub byte_full : (line : List ℕ) (b : ℕ) → 8000 < length line → line ≡ added_byte line b
unfolding added_byte
byte_full line b h = rw (lt-leb (length line) 8000 h)

pub byte_added : (line part : List ℕ) (b : ℕ) → length line ≤ 8000 → part ≡ shown_byte b → added line part ≡ added_byte line b
unfolding added_byte
byte_added line part b h e = rw (le-leb (length line) 8000 h, e)

-- a line that is short so far
pub record Short (line text : List ℕ) (most : ℕ) : Type 0 where
  pub out : line ≡ text
  pub size : length text ≤ most

pub first : (none line part : List ℕ) (k : ℕ) → none ≡ [] → line ≡ added none part → length part ≤ k → k ≤ 8192 → Short line part k
first none line part k e f h r =
    record { out = f ∙ ap (λ (l : List ℕ). added l part) e ∙ added-fits [] part (omega arith); size = h }

pub more : {line next text : List ℕ} {n : ℕ} (part : List ℕ) (k : ℕ) → Short line text n → next ≡ added line part → length part ≤ k → n + k ≤ 8192
    → Short next (text ++ part) (n + k)
more {line} {next} {text} {n} part k s e h r =
    record {
      out = e ∙ ap (λ (l : List ℕ). added l part) s.out ∙ added-fits text part (omega (arith, s.size));
      size = omega (arith, s.size, length-append text part);
    }

pub more-hex :
    {line next text : List ℕ} {n : ℕ} (bytes : List ℕ) (k : ℕ) → Short line text n → next ≡ added_hex line bytes → length bytes ≤ k
    → n + 2 * k ≤ 8192
    → Short next (text ++ hex_of bytes) (n + 2 * k)
more-hex {line} {next} {text} {n} bytes k s e h r =
    record {
      out = e ∙ ap (λ (l : List ℕ). added_hex l bytes) s.out ∙ hex-fits text bytes (omega (arith, s.size));
      size = omega (arith, s.size, length-append text (hex_of bytes), length-hex bytes);
    }

-- a name and its number as one part: behind a line, and as the first part
pub more-field :
    {line next text : List ℕ} {n : ℕ} (name : List ℕ) (x : ℕ) → Short line text n → next ≡ added (added line name) (decimal x)
    → length name ≤ 1000
    → n + 1020 ≤ 8192
    → Short next (text ++ field name x) (n + 1020)
more-field {line} {next} {text} {n} name x s e h r =
    let named : Short (added line name) (text ++ name) (n + 1000) = more name 1000 s refl h (omega arith) in
    let numbered = more (decimal x) 20 named e (decimal-short x) (omega arith) in
    record {
      out = numbered.out ∙ append_assoc text name (decimal x);
      size = omega (arith, s.size, decimal-short x, length-append text (field name x), length-append name (decimal x));
    }

pub first-field :
    {none line : List ℕ} (name : List ℕ) (x : ℕ) → none ≡ [] → line ≡ added (added none name) (decimal x) → length name ≤ 1000
    → Short line (field name x) 1020
first-field {none} {line} name x e f h = more-field {n = 0} name x (record { out = e; size = omega arith }) f h (omega arith)

-- a number, a name with another, and an end
pub numbers_laid :
    {none one two line : List ℕ} (x : ℕ) (b : List ℕ) (y : ℕ) (end : List ℕ) → none ≡ []
    → one ≡ added none (decimal x)
    → two ≡ added (added one b) (decimal y)
    → line ≡ added two end
    → length b ≤ 1000
    → length end ≤ 1000
    → line ≡ two_text [] x b y end
numbers_laid x b y end e f g h j k =
    (more end 1000 (more-field b y (first _ _ _ 20 e f (decimal-short x) (omega arith)) g j (omega arith)) h k (omega arith)).out

-- two and three names with their numbers, and an end
pub two_laid :
    {none one two line : List ℕ} (a : List ℕ) (x : ℕ) (b : List ℕ) (y : ℕ) (end : List ℕ) → none ≡ []
    → one ≡ added (added none a) (decimal x)
    → two ≡ added (added one b) (decimal y)
    → line ≡ added two end
    → length a ≤ 1000
    → length b ≤ 1000
    → length end ≤ 1000
    → line ≡ two_text a x b y end
two_laid a x b y end e f g h i j k =
    (more end 1000 (more-field b y (first-field a x e f i) g j (omega arith)) h k (omega arith)).out

pub three_laid :
    {none one two three line : List ℕ} (a : List ℕ) (x : ℕ) (b : List ℕ) (y : ℕ) (c : List ℕ) (z : ℕ) (end : List ℕ) → none ≡ []
    → one ≡ added (added none a) (decimal x)
    → two ≡ added (added one b) (decimal y)
    → three ≡ added (added two c) (decimal z)
    → line ≡ added three end
    → length a ≤ 1000
    → length b ≤ 1000
    → length c ≤ 1000
    → length end ≤ 1000
    → line ≡ three_text a x b y c z end
unfolding three_text
three_laid a x b y c z end e f g h i j k l m =
    (more end 1000 (more-field c z (more-field b y (first-field a x e f j) g k (omega arith)) h l (omega arith)) i m (omega arith)).out

-- ---- how long the parts of a line are
two-short : (a : List ℕ) (x : ℕ) (b : List ℕ) (y : ℕ) (e : List ℕ) → length (two_text a x b y e) ≤ length a + length b + length e + 40
two-short a x b y e =
    omega (
      arith,
      decimal-short x,
      decimal-short y,
      length-append a (decimal x),
      length-append b (decimal y),
      length-append (field a x) (field b y),
      length-append (field a x ++ field b y) e,
    )

three-short :
    (a : List ℕ) (x : ℕ) (b : List ℕ) (y : ℕ) (c : List ℕ) (z : ℕ) (e : List ℕ)
    → length (three_text a x b y c z e) ≤ length a + length b + length c + length e + 60
unfolding three_text
three-short a x b y c z e =
    omega (
      arith,
      two-short a x b y (field c z),
      decimal-short z,
      length-append c (decimal z),
      length-append (field a x ++ field b y) (field c z),
      length-append (field a x ++ field b y ++ field c z) e,
    )

pub duration-short : (s : ℕ) → length (duration_text s) ≤ 50
unfolding duration_text
duration-short s = go (ltb s 60) (ltb s 3600) (ltb s 86400)
  where
    go : (a b c : Bool)
        → length
        (pick a (decimal s ++ ascii " s")
        (pick b (two_text [] (s / 60) (ascii " min ") (s % 60) (ascii " s"))
        (pick c (two_text [] (s / 3600) (ascii " h ") (s % 3600 / 60) (ascii " min"))
        (two_text [] (s / 86400) (ascii " d ") (s % 86400 / 3600) (ascii " h")))))
        ≤ 50
    go true b c = omega (arith, decimal-short s, length-append (decimal s) (ascii " s"))
    go false true c = omega (arith, two-short [] (s / 60) (ascii " min ") (s % 60) (ascii " s"))
    go false false true = omega (arith, two-short [] (s / 3600) (ascii " h ") (s % 3600 / 60) (ascii " min"))
    go false false false = omega (arith, two-short [] (s / 86400) (ascii " d ") (s % 86400 / 3600) (ascii " h"))

pub share-short : (made all : ℕ) → length (share_text made all) ≤ 100
unfolding share_text
share-short made all =
    omega (arith, three-short (ascii "labels ") made (ascii " of ") all (ascii ", ") (percent_of made all) (ascii " %"))

pub pace-short : (rate left : ℕ) → length (pace_text rate left) ≤ 100
unfolding pace_text
pace-short rate left =
    let told : List ℕ = field (ascii ", ") rate in
    omega (
      arith,
      decimal-short rate,
      duration-short left,
      length-append (ascii ", ") (decimal rate),
      length-append told (ascii " a second, "),
      length-append (told ++ ascii " a second, ") (duration_text left),
      length-append (told ++ ascii " a second, " ++ duration_text left) (ascii " left"),
    )
