-- Demand 1, each sentence with its proof.
use Rattle.demands.specs.Demand1.{Demand1}
use Rattle.demands.proofs.Carrying.{labelling-ends}
use Rattle.demands.proofs.Openings.{opening-ends}
use Rattle.demands.proofs.Writings.{writing-ends}
use Rattle.demands.proofs.Checks.{hashing-portion, hashing-end, hashing-whole, starting-run, continuing-run, starting-opening}
use Rattle.demands.proofs.Checks.{continuing-opening, a-challenge, writing-head, one-opening, planning-chain, starting-file, continuing-file}
use Rattle.demands.proofs.Programs.{planning-program, comparing-openings, writing-number}
use Rattle.demands.proofs.Numbers.{reading-number}
use Rattle.demands.proofs.Files.{a-head, a-file}
use Rattle.demands.proofs.Drawings.{drawing-chain}
use Rattle.demands.proofs.Records.{writing-record, reading-record}
use Rattle.demands.proofs.Serving.{serving-unit}

pub demand1 : Demand1
demand1 =
    record {
      labelling_ends = labelling-ends;
      opening_ends = opening-ends;
      writing_ends = writing-ends;
      hashing_portion = hashing-portion;
      hashing_end = hashing-end;
      hashing_whole = hashing-whole;
      starting_run = starting-run;
      continuing_run = continuing-run;
      starting_opening = starting-opening;
      continuing_opening = continuing-opening;
      challenge = a-challenge;
      writing_head = writing-head;
      one_opening = one-opening;
      head = a-head;
      file = a-file;
      planning_chain = planning-chain;
      drawing_chain = λ bytes statement n t list small. drawing-chain bytes statement n t small list;
      planning_program = planning-program;
      comparing = comparing-openings;
      reading_number = reading-number;
      writing_number = writing-number;
      starting_file = starting-file;
      continuing_file = continuing-file;
      writing_record = writing-record;
      reading_record = reading-record;
      serving_unit = serving-unit;
    }
