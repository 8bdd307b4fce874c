-- The parts of a command line: the first word, an option with its values, and the operands.
--     seal REPORT PROOF DEPTH [CHALLENGES [MEMORY]]     option: --every SECONDS
--     verify REPORT PROOF [DEPTH CHALLENGES]            option: --at-least DEPTH CHALLENGES
--     chain REPORT PROOF
--     info PROOF
--     help, --help and --version, whatever follows
-- An option stands with its values directly after the first word, or last.
use Rattle.std.specs.Prelude.{ℕ, ◌+◌, ◌-◌, ◌^◌, ◌≤◌, ◌<◌, Bool, true, false, List, [], Option, Some, None, leb, eqb}
use Rattle.base.specs.Choice.{pick}
use Rattle.base.specs.Lists.{same_bytes}
use Rattle.base.specs.Row.{either}
use Rattle.decimal.specs.Ascii.{ascii}
use Rattle.words.specs.Parting.{word_at, word_count}
use Rattle.words.specs.declared.Kind.{Kind}
use Rattle.words.specs.declared.Kind.TheVariants.{Seal, Verify, Chain, Info, Help, Version}
use Rattle.words.specs.declared.Parts.{Parts}

-- ---- the first word: what it asks for; nothing for a word that is not known
unfoldable pub kind_of : List ℕ → Option Kind
kind_of word =
    pick (same_bytes word (ascii "seal")) (Some Seal)
    (pick (same_bytes word (ascii "verify")) (Some Verify)
    (pick (same_bytes word (ascii "chain")) (Some Chain)
    (pick (same_bytes word (ascii "info")) (Some Info)
    (pick (either (same_bytes word (ascii "help")) (same_bytes word (ascii "--help"))) (Some Help)
    (pick (same_bytes word (ascii "--version")) (Some Version) None)))))

-- `help` or `--help`, or `--help` after `seal`, `verify`, `chain` or `info`
abbrev pub asks_help : List ℕ → Option Kind → Bool
asks_help line (Some Help) = true
asks_help line (Some Version) = false
asks_help line None = false
asks_help line (Some kind) = same_bytes (word_at 1 line) (ascii "--help")

-- ---- the option
-- the place of an option's name, where it has so many words with its values: 1, or where they are the last words
unfoldable pub place_of : List ℕ → ℕ → List ℕ → ℕ → Option ℕ
place_of name size line all =
    pick (leb all size) None
    (pick (same_bytes (word_at 1 line) name) (Some 1)
    (pick (same_bytes (word_at (all - size) line) name) (Some (all - size)) None))

-- `--every` has one value, `--at-least` two
abbrev pub option_of : Option Kind → List ℕ → ℕ → Option ℕ
option_of (Some Seal) line all = place_of (ascii "--every") 2 line all
option_of (Some Verify) line all = place_of (ascii "--at-least") 3 line all
option_of kind line all = None

-- how many words the option is, with its values; `option` is its place
abbrev pub option_size : Option Kind → Option ℕ → ℕ
option_size kind None = 0
option_size (Some Seal) (Some at) = 2
option_size kind (Some at) = 3

-- ---- the operands: the first is behind the first word, and behind the option where that stands there
abbrev pub first_after : Option ℕ → ℕ → ℕ
first_after None size = 1
first_after (Some at) size = pick (eqb at 1) (1 + size) 1

unfoldable pub parts_with : Option Kind → ℕ → Option ℕ → Parts
parts_with kind all option =
    record {
      kind = kind;
      all = all;
      option = option;
      first = first_after option (option_size kind option);
      count = all - (1 + option_size kind option);
    }

unfoldable pub parts_of : List ℕ → Parts
parts_of line =
    let all : ℕ = word_count line in
    let kind : Option Kind = kind_of (word_at 0 line) in
    parts_with kind all (option_of kind line all)

-- REPORT and PROOF, of a line with these parts; `info` has a PROOF alone
abbrev pub report_by : Option Kind → ℕ → List ℕ → List ℕ
report_by (Some Info) first line = []
report_by kind first line = word_at first line

abbrev pub proof_by : Option Kind → ℕ → List ℕ → List ℕ
proof_by (Some Info) first line = word_at first line
proof_by kind first line = word_at (first + 1) line

unfoldable pub report_in : List ℕ → List ℕ
report_in line = let p : Parts = parts_of line in report_by p.kind p.first line

unfoldable pub proof_in : List ℕ → List ℕ
proof_in line = let p : Parts = parts_of line in proof_by p.kind p.first line

-- the places of operands and values are numbers of 64 bits
abbrev pub OptionPlaced : Option ℕ → Type 0
OptionPlaced None = Unit
OptionPlaced (Some at) = at + 2 < 2 ^ 64

abbrev pub Placed : Parts → Type 0
Placed p = (p.first ≤ 4) × OptionPlaced p.option
