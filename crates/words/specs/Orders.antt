-- What the words ask for, and the first thing that is wrong with them. The words are those of specs/Parts.antt.
use Rattle.std.specs.Prelude.{ℕ, ◌+◌, min, Bool, true, false, List, [], ◌∷◌, Option, Some, None, Result, Ok, Err, is_none, ltb, eqb, length}
use Rattle.base.specs.Choice.{pick, both}
use Rattle.base.specs.Limits.{max_depth, max_memory, max_challenges}
use Rattle.base.specs.Row.{outside, either}
use Rattle.words.specs.Parting.{word_at}
use Rattle.words.specs.Parts.{asks_help, parts_of, report_in, proof_in}
use Rattle.words.specs.Values.{value_of}
use Rattle.words.specs.declared.Kind.{Kind}
use Rattle.words.specs.declared.Kind.TheVariants as kind
use Rattle.words.specs.declared.Parts.{Parts}
use Rattle.words.specs.declared.Problem.{Problem}
use Rattle.words.specs.declared.Problem.TheVariants.{NoWord, UnknownWord, Missing, Surplus, NoPath, LongPath, Depth, Challenges, Memory}
use Rattle.words.specs.declared.Problem.TheVariants.{Seconds}
use Rattle.words.specs.declared.Wanted.{Wanted}
use Rattle.words.specs.declared.Order.{Order}
use Rattle.words.specs.declared.Order.TheVariants.{Seal, Verify, VerifyAs, VerifyAtLeast, Chain, Info, Help, Version}

-- the first condition of a row that holds gives its problem
abbrev pub first_of : List (Bool × Problem) → Result Unit Problem
first_of [] = Ok tt
first_of (check ∷ row) = pick check.0 (Err check.1) (first_of row)

-- what comes next, or the problem that was found
abbrev pub then : {A B : Type 0} → Result A Problem → (A → Result B Problem) → Result B Problem
then (Ok x) next = next x
then (Err problem) next = Err problem

-- ---- how many operands: `seal` has 3 to 5, `verify` 2 or 4, and 2 with `--at-least`, `chain` 2, `info` 1
abbrev pub fewest : Option Kind → ℕ
fewest (Some kind.Seal) = 3
fewest (Some kind.Info) = 1
fewest kind = 2

abbrev pub most : Option Kind → Option ℕ → ℕ
most (Some kind.Seal) option = 5
most (Some kind.Info) option = 1
most (Some kind.Verify) None = 4
most kind option = 2

abbrev pub is_verify : Option Kind → Bool
is_verify (Some kind.Verify) = true
is_verify kind = false

unfoldable pub word_row : Parts → Result Unit Problem
word_row p =
    first_of
    ((eqb p.all 0, NoWord)
    ∷ (is_none p.kind, UnknownWord)
    ∷ (ltb p.count (fewest p.kind), Missing)
    ∷ (ltb (most p.kind p.option) p.count, Surplus)
    ∷ (both (is_verify p.kind) (eqb p.count 3), Missing)
    ∷ []
    )

-- ---- the paths, by their lengths: `.part` can follow in the 4,095 bytes that a path has at most
abbrev pub max_path : ℕ
max_path = 4090

unfoldable pub path_row : ℕ → ℕ → Result Unit Problem
path_row report proof =
    first_of
    ((either (eqb report 0) (eqb proof 0), NoPath) ∷ (either (ltb max_path report) (ltb max_path proof), LongPath) ∷ [])

-- `info` has a PROOF alone
abbrev pub paths_row : Option Kind → ℕ → ℕ → Result Unit Problem
paths_row (Some kind.Info) report proof = path_row proof proof
paths_row kind report proof = path_row report proof

-- ---- the numbers
-- a word's number, if it is from low to high
abbrev pub within : ℕ → ℕ → Problem → Option ℕ → Result ℕ Problem
within low high problem None = Err problem
within low high problem (Some x) = pick (outside low high x) (Err problem) (Ok x)

unfoldable pub number_in : ℕ → ℕ → Problem → ℕ → List ℕ → Result ℕ Problem
number_in low high problem i line = within low high problem (value_of (word_at i line))

-- ---- `seal`: 'challenges default to 150, the paper's figure, the memory level to the smaller of depth and 14', its limit (W-209);
-- 60 seconds between checkpoints
unfoldable pub challenges_in : List ℕ → Parts → Result ℕ Problem
challenges_in line p = pick (ltb p.count 4) (Ok 150) (number_in 1 max_challenges Challenges (p.first + 3) line)

unfoldable pub memory_in : List ℕ → Parts → ℕ → Result ℕ Problem
memory_in line p n = pick (ltb p.count 5) (Ok (min n max_memory)) (number_in 0 (min n max_memory) Memory (p.first + 4) line)

abbrev pub max_seconds : ℕ
max_seconds = 3600

abbrev pub seconds_by : Option ℕ → List ℕ → Result ℕ Problem
seconds_by None line = Ok 60
seconds_by (Some at) line = number_in 0 max_seconds Seconds (at + 1) line

unfoldable pub seconds_in : List ℕ → Parts → Result ℕ Problem
seconds_in line p = seconds_by p.option line

-- the problem of the first number that has one
unfoldable pub seal_order : List ℕ → Parts → Result Order Problem
seal_order line p =
    then (number_in 1 max_depth Depth (p.first + 2) line)
    (λ n. then (challenges_in line p)
    (λ t. then (memory_in line p n)
    (λ m. then (seconds_in line p)
    (λ s. Ok (Seal (record { depth = n; challenges = t; memory = m; seconds = s }))))))

-- ---- `verify`: 'depth and count wanted default to those of the head'; `--at-least` says the least of both
unfoldable pub wanted_at : ℕ → List ℕ → Result Wanted Problem
wanted_at i line =
    then (number_in 1 max_depth Depth i line)
    (λ n. then (number_in 1 max_challenges Challenges (i + 1) line) (λ t. Ok (record { depth = n; challenges = t })))

abbrev pub verify_by : Option ℕ → List ℕ → Parts → Result Order Problem
verify_by None line p = pick (ltb p.count 3) (Ok Verify) (then (wanted_at (p.first + 2) line) (λ w. Ok (VerifyAs w)))
verify_by (Some at) line p = then (wanted_at (at + 1) line) (λ w. Ok (VerifyAtLeast w))

unfoldable pub verify_order : List ℕ → Parts → Result Order Problem
verify_order line p = verify_by p.option line p

abbrev pub asked_by : Option Kind → List ℕ → Parts → Result Order Problem
asked_by (Some kind.Seal) line p = seal_order line p
asked_by (Some kind.Verify) line p = verify_order line p
asked_by (Some kind.Chain) line p = Ok Chain
asked_by kind line p = Ok Info

unfoldable pub asked : List ℕ → Parts → Result Order Problem
asked line p = asked_by p.kind line p

-- all that the words say
abbrev pub is_version : Option Kind → Bool
is_version (Some kind.Version) = true
is_version kind = false

unfoldable pub order_of : List ℕ → Result Order Problem
order_of line =
    let p : Parts = parts_of line in
    pick (asks_help line p.kind) (Ok Help)
    (pick (is_version p.kind) (Ok Version)
    (then (word_row p) (λ _. then (paths_row p.kind (length (report_in line)) (length (proof_in line))) (λ _. asked line p))))
