-- Document 01's limits, each named once, and the sizes that follow from them.
use Rattle.std.specs.Prelude.{ℕ, ◌+◌, ◌-◌, ◌*◌, ◌^◌, ◌≤◌, min}

-- the greatest depth n
abbrev pub max_depth : ℕ
max_depth = 40

-- the greatest memory level m, 20 before W-209; a run's is also at most its depth
abbrev pub max_memory : ℕ
max_memory = 14

-- the most challenges of a file, and leaves of a plan
abbrev pub max_challenges : ℕ
max_challenges = 200

-- the most runs that one unit carries (W-208)
abbrev pub max_runs : ℕ
max_runs = 8

-- the last edition of files and of records of a run; the first is 1 (W-206)
abbrev pub max_edition : ℕ
max_edition = 2

-- the edition of a new run
abbrev pub new_edition : ℕ
new_edition = 2

-- the most bytes that SHA-256 takes here
abbrev pub max_hashed : ℕ
max_hashed = 2 ^ 61 - 1

-- the most bytes that the planning program reads
abbrev pub max_input : ℕ
max_input = 65536

-- 'at most 41 held labels, 1,312 bytes in all'
abbrev pub held_size : ℕ
held_size = 32 * (max_depth + 1)

-- the longest record of a run: nine bytes of numbers, the statement and 41 labels, 1,353 bytes (W-201)
abbrev pub max_record : ℕ
max_record = 41 + held_size

-- 'so that no run needs a store over 1,048,544 bytes' (W-209)
abbrev pub max_store : ℕ
max_store = 32 * (2 ^ (max_memory + 1) - 1)

-- the longest input of a label: 41 bytes and the labels of as many parents as there are levels, 1,321 bytes
abbrev pub max_label_input : ℕ
max_label_input = 41 + 32 * max_depth

-- the longest file: four bytes of numbers, statement, root and the openings, 262,468 bytes
abbrev pub max_openings : ℕ
max_openings = max_challenges * held_size

abbrev pub max_file : ℕ
max_file = 68 + max_openings

-- the longest chain: 'With t = 200 at most 6,855 nodes.'
abbrev pub max_chain : ℕ
max_chain = 6855

-- ---- within the limits
-- an edition that exists
abbrev pub IsEdition : ℕ → Type 0
IsEdition e = (1 ≤ e) × (e ≤ max_edition)

-- n from 1 to 40
abbrev pub IsDepth : ℕ → Type 0
IsDepth n = (1 ≤ n) × (n ≤ max_depth)

-- m at most min(n, max_memory)
abbrev pub IsMemory : ℕ → ℕ → Type 0
IsMemory n m = m ≤ min n max_memory

-- t from 1 to 200
abbrev pub IsCount : ℕ → Type 0
IsCount t = (1 ≤ t) × (t ≤ max_challenges)
