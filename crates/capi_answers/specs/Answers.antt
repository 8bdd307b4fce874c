-- The answer of each exported call, whole, as document 01's definitions give it: a record with every field that the struct has.
use Rattle.std.specs.Prelude.{ℕ, List, length, Option}
use Rattle.base.specs.Bytes.{zeros}
use Rattle.sha256.specs.declared.Hash.{Hash}
use Rattle.sha256.specs.Portions.{update_row, update_state, finish_row, finish_blocks, finish_digest, digest_row, digest_blocks, digest_answer}
use Rattle.run.specs.declared.Run.{Run}
use Rattle.run.specs.Rows.{start_row, continue_row}
use Rattle.run.specs.Steps as runs
use Rattle.run_record.specs.Layout.{record_row, record_size}
use Rattle.run_record.specs.Reading.{resume_row, resumed}
use Rattle.opening.specs.declared.Opening.{Opening}
use Rattle.opening.specs.Rows.{open_row, reopen_row}
use Rattle.opening.specs.Names.{open_of}
use Rattle.opening.specs.Steps as openings
use Rattle.unit.specs.declared.StampingUnit.{StampingUnit}
use Rattle.unit.specs.declared.StorePlace.{StorePlace}
use Rattle.unit.specs.Rows.{unit_row}
use Rattle.unit.specs.Turns as units
use Rattle.proof_file.specs.declared.place.Place.{Place}
use Rattle.file_head.specs.Challenge.{challenge_row, challenged}
use Rattle.file_head.specs.Head.{head_refusal, head_edition, head_depth, head_count, head_of, part_start, part_length}
use Rattle.writing.specs.declared.Writing.{Writing}
use Rattle.writing.specs.Rows.{write_row, rewrite_row}
use Rattle.writing.specs.Possible.{written_of}
use Rattle.writing.specs.Steps as writings
use Rattle.chain.specs.PlanRow.{plan_row, planned_count}
use Rattle.compare.specs.declared.Pair.{Pair}
use Rattle.compare.specs.Comparison.{compare_row, compared, first_input, second_input}
use Rattle.draw.specs.Drawing.{DrawingAnswer, drawing_of, first_drawn, second_drawn, clash_pair}
use Rattle.capi.specs.Answers.{first_of, second_of, level_of, kind_of, refusal_of, count_of}
use Rattle.capi.specs.declared.hashes.HashUpdated.{HashUpdated}
use Rattle.capi.specs.declared.hashes.HashFinished.{HashFinished}
use Rattle.capi.specs.declared.hashes.HashDigest.{HashDigest}
use Rattle.capi.specs.declared.runs.RunStarted.{RunStarted}
use Rattle.capi.specs.declared.runs.RunAdvanced.{RunAdvanced}
use Rattle.capi.specs.declared.runs.RunRecorded.{RunRecorded}
use Rattle.capi.specs.declared.openings.OpeningStarted.{OpeningStarted}
use Rattle.capi.specs.declared.openings.OpeningAdvanced.{OpeningAdvanced}
use Rattle.capi.specs.declared.units.UnitAdvanced.{UnitAdvanced}
use Rattle.capi.specs.declared.files.Challenged.{Challenged}
use Rattle.capi.specs.declared.files.HeadRead.{HeadRead}
use Rattle.capi.specs.declared.writings.WritingStarted.{WritingStarted}
use Rattle.capi.specs.declared.writings.WritingAdvanced.{WritingAdvanced}
use Rattle.capi.specs.declared.chains.Planned.{Planned}
use Rattle.capi.specs.declared.chains.Compared.{Compared}
use Rattle.capi.specs.declared.chains.Drawn.{Drawn}
use Rattle.capi.specs.declared.chains.Clash.{Clash}

-- a pair that disagrees with its two inputs
abbrev pub clash_of : Option Pair → List ℕ → List ℕ → Clash
clash_of pair first second =
    record { i = first_of pair; j = second_of pair; level = level_of pair; first = first; second = second; zero = zeros 6 }

abbrev pub hash_update : Hash → List ℕ → HashUpdated
hash_update hash part =
    record { refusal = update_row hash part; hash = update_state hash part }

abbrev pub hash_finish : Hash → HashFinished
hash_finish hash =
    record { refusal = finish_row hash; blocks = finish_blocks hash; digest = finish_digest hash; hash = hash }

abbrev pub digest : List ℕ → HashDigest
digest message =
    record { refusal = digest_row message; blocks = digest_blocks message; digest = digest_answer message }

abbrev pub run_start : List ℕ → ℕ → ℕ → List ℕ → RunStarted
run_start statement depth memory store =
    record {
      refusal = start_row depth memory (length store);
      run = runs.started statement depth memory (length store);
    }

abbrev pub run_advance : Run → ℕ → List ℕ → RunAdvanced
run_advance run budget store =
    record {
      refusal = continue_row run (length store);
      labels = runs.labels_in (runs.stamped run store) budget;
      blocks = runs.blocks_in (runs.stamped run store) budget;
      run = (runs.advanced (runs.stamped run store) budget).run;
    }

abbrev pub run_record : Run → List ℕ → RunRecorded
run_record run out =
    record { refusal = record_row run (length out); size = record_size run (length out) }

abbrev pub run_resume : List ℕ → RunStarted
run_resume bytes =
    record { refusal = resume_row bytes; run = resumed bytes }

abbrev pub opening_start : ℕ → List ℕ → ℕ → ℕ → ℕ → List ℕ → List ℕ → OpeningStarted
opening_start edition statement depth memory leaf store out =
    record {
      refusal = open_row edition depth memory leaf (length store) (length out);
      opening = openings.started edition statement depth memory leaf (length store) (length out);
    }

abbrev pub opening_advance : Opening → ℕ → List ℕ → List ℕ → OpeningAdvanced
opening_advance opening budget store out =
    record {
      refusal = reopen_row opening (length store) (length out);
      labels = openings.labels_in store (open_of opening out) budget;
      blocks = openings.blocks_in store (open_of opening out) budget;
      opening = (openings.advanced store (open_of opening out) budget).opening;
    }

abbrev pub unit_advance : StampingUnit → ℕ → List ℕ → UnitAdvanced
unit_advance unit budget store =
    record {
      refusal = unit_row unit (length store);
      labels = units.labels_in (units.carried unit store) budget;
      blocks = units.blocks_in (units.carried unit store) budget;
      unit = (units.advanced (units.carried unit store) budget).unit;
    }

abbrev pub unit_store_place : StampingUnit → ℕ → List ℕ → StorePlace
unit_store_place unit i store =
    record { offset = units.place_offset unit i (length store); length = units.place_length unit i (length store) }

abbrev pub challenge : ℕ → List ℕ → List ℕ → ℕ → ℕ → Challenged
challenge edition statement root depth i =
    record { refusal = challenge_row edition depth i; leaf = challenged edition depth statement root i }

abbrev pub read_head : List ℕ → HeadRead
read_head file =
    record {
      refusal = head_refusal (head_of file);
      edition = head_edition (head_of file);
      depth = head_depth (head_of file);
      count = head_count (head_of file);
    }

abbrev pub opening_place : List ℕ → ℕ → Place
opening_place file i =
    record { offset = part_start file i (head_of file); length = part_length file i (head_of file) }

abbrev pub writing_start : ℕ → List ℕ → List ℕ → ℕ → ℕ → ℕ → List ℕ → List ℕ → WritingStarted
writing_start edition statement root depth memory count store file =
    record {
      refusal = write_row edition depth memory count (length store) (length file);
      writing = (writings.started edition statement root depth memory count store file).writing;
    }

abbrev pub writing_advance : Writing → ℕ → List ℕ → List ℕ → WritingAdvanced
writing_advance writing budget store file =
    record {
      refusal = rewrite_row writing (length store) (length file);
      labels = writings.labels_in store (written_of writing file) budget;
      blocks = writings.blocks_in store (written_of writing file) budget;
      writing = (writings.advanced store (written_of writing file) budget).writing;
    }

abbrev pub plan : ℕ → List ℕ → List ℕ → Planned
plan depth leaves list =
    record { refusal = plan_row depth leaves (length list); count = planned_count depth leaves (length list) }

abbrev pub compare_from : Option Pair → ℕ → List ℕ → ℕ → List ℕ → List ℕ → Compared
compare_from pair edition statement depth leaves openings =
    record {
      refusal = compare_row edition depth leaves (length openings);
      clash = clash_of pair (first_input edition statement depth leaves openings pair) (second_input edition statement depth leaves openings pair);
    }

abbrev pub compare : ℕ → List ℕ → ℕ → List ℕ → List ℕ → Compared
compare edition statement depth leaves openings =
    compare_from (compared edition statement depth leaves openings) edition statement depth leaves openings

abbrev pub draw_from : DrawingAnswer → List ℕ → List ℕ → ℕ → ℕ → List ℕ → Drawn
draw_from drawing file statement depth count list =
    record {
      kind = kind_of drawing;
      code = refusal_of drawing;
      count = count_of drawing;
      clash =
          clash_of (clash_pair drawing) (first_drawn file statement depth count (length list))
          (second_drawn file statement depth count (length list));
    }

abbrev pub draw : List ℕ → List ℕ → ℕ → ℕ → List ℕ → Drawn
draw file statement depth count list = draw_from (drawing_of file statement depth count (length list)) file statement depth count list
