-- The lines that the program prints, in bytes.
use Rattle.std.specs.Prelude.{ℕ, ◌*◌, ◌/◌, ◌%◌, ◌^◌, List, [], ◌++◌, ltb, leb, eqb}
use Rattle.base.specs.Choice.{pick}
use Rattle.base.specs.Row.{either}
use Rattle.decimal.specs.Ascii.{ascii}
use Rattle.decimal.specs.Text.{decimal, field}
use Rattle.lines.specs.Line.{hex_of}

-- a name with a number or with bytes in hexadecimal, a line feed
unfoldable pub fact_text : List ℕ → ℕ → List ℕ
fact_text name x = field name x ++ ascii "\n"

unfoldable pub bytes_text : List ℕ → List ℕ → List ℕ
bytes_text name bytes = name ++ hex_of bytes ++ ascii "\n"

-- two names, each with a number, and an end
abbrev pub two_text : List ℕ → ℕ → List ℕ → ℕ → List ℕ → List ℕ
two_text a x b y end = field a x ++ field b y ++ end

-- three names, each with a number, and an end
unfoldable pub three_text : List ℕ → ℕ → List ℕ → ℕ → List ℕ → ℕ → List ℕ → List ℕ
three_text a x b y c z end = field a x ++ field b y ++ field c z ++ end

-- how many in a hundred; 0 where there are none, or where 100 times as many do not fit 64 bits
unfoldable pub percent_of : ℕ → ℕ → ℕ
percent_of made all = pick (either (eqb all 0) (leb (2 ^ 57) made)) 0 (100 * made / all)

-- seconds in two units at most: `42 s`, `12 min 5 s`, `3 h 12 min`, `49 d 3 h`
unfoldable pub duration_text : ℕ → List ℕ
duration_text s =
    pick (ltb s 60) (decimal s ++ ascii " s")
    (pick (ltb s 3600) (two_text [] (s / 60) (ascii " min ") (s % 60) (ascii " s"))
    (pick (ltb s 86400) (two_text [] (s / 3600) (ascii " h ") (s % 3600 / 60) (ascii " min"))
    (two_text [] (s / 86400) (ascii " d ") (s % 86400 / 3600) (ascii " h"))))

-- `labels `, ` of `, `, ` and ` %`: how many are made, of how many, and so how many in a hundred
unfoldable pub share_text : ℕ → ℕ → List ℕ
share_text made all =
    three_text (ascii "labels ") made (ascii " of ") all (ascii ", ") (percent_of made all)
    (ascii " %")

-- `, `, ` a second, ` and ` left`: how many are made a second, and how long the rest takes
unfoldable pub pace_text : ℕ → ℕ → List ℕ
pace_text rate left = field (ascii ", ") rate ++ ascii " a second, " ++ duration_text left ++ ascii " left"

-- the pace is told where it is known
unfoldable pub progress_text : ℕ → ℕ → ℕ → ℕ → List ℕ
progress_text made all rate left = share_text made all ++ pick (eqb rate 0) [] (pace_text rate left)

-- `depth `, `: about `, ` at ` and ` labels a second`
unfoldable pub forecast_text : ℕ → ℕ → ℕ → List ℕ
forecast_text n seconds rate =
    field (ascii "depth ") n ++ ascii ": about " ++ duration_text seconds ++ field (ascii " at ") rate
    ++ ascii " labels a second\n"

-- `memory level `, ` makes ` and ` labels anew for the openings, more than the `, each with its number
unfoldable pub anew_text : ℕ → ℕ → ℕ → List ℕ
anew_text m anew tree =
    three_text (ascii "memory level ") m
    (ascii " makes ") anew
    (ascii " labels anew for the openings, more than the ") tree (ascii " of the tree\n")

-- where a run goes on: at a label, or with an opening; what a message says of a file
unfoldable pub resumed_text : ℕ → ℕ → List ℕ
resumed_text made all = two_text (ascii "going on from label ") made (ascii " of ") all []

unfoldable pub opening_text : ℕ → ℕ → List ℕ
opening_text i t = two_text (ascii "going on with opening ") i (ascii " of ") t []

-- `accepted depth `, ` challenges ` and ` chain `, each with its number
unfoldable pub accepted_text : ℕ → ℕ → ℕ → List ℕ
accepted_text n t nodes =
    three_text (ascii "accepted depth ") n
    (ascii " challenges ") t
    (ascii " chain ") nodes (ascii "\n")

-- `refused `, the number, a blank and the opening
unfoldable pub rejected_text : ℕ → ℕ → List ℕ
rejected_text number opening = two_text (ascii "refused ") number (ascii " ") opening (ascii "\n")

-- `clash openings `, ` and ` and ` level `, each with its number
unfoldable pub clash_text : ℕ → ℕ → ℕ → List ℕ
clash_text i j l =
    three_text (ascii "clash openings ") i
    (ascii " and ") j (ascii " level ") l (ascii "\n")
