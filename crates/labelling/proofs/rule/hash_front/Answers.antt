-- `labelling::rule::hash_front` meets its contract: the buffer has 1,344 bytes, and the padded message is FIPS's.
use mathlib.Core.Path.{◌≡◌}
use native.Mathlib.Omega.{arith}
use lib.ListN.{length, length-take}
use Rattle.labelling.specs.Buffer.{input_space}
use Rattle.labelling.proofs.Padded.{length_front, hashed-laid}
use Rattle.labelling.proofs.rule.hash_front.Goals as goal

room : (c : goal.After-put-arg-3-1) → length c.args.input.now ≡ input_space
room c = length_front _ c.args.len c.requires.len_le_max_label_input c.requires.input_value

pub put-requires : goal.put-requires
put-requires c = omega (arith, room c)

-- the number of blocks, as it is computed, at each place where it is used

room-at-after-count-1 : (c : goal.After-count-1) → length c.args.input.now ≡ input_space
room-at-after-count-1 c = length_front _ c.args.len c.requires.len_le_max_label_input c.requires.input_value

pub put-requires-2 : goal.put-requires-2
put-requires-2 c =
    omega (arith, room-at-after-count-1 c, c.block_count-end.ensures)

room-at-after-slice_known-3-1 : (c : goal.After-slice_known-3-1) → length c.args.input.now ≡ input_space
room-at-after-slice_known-3-1 c = length_front _ c.args.len c.requires.len_le_max_label_input c.requires.input_value

pub slice_bounds-digest_padded-end : goal.slice_bounds-digest_padded-end
slice_bounds-digest_padded-end c =
    omega (arith, room-at-after-slice_known-3-1 c, c.block_count-end.ensures)

pub slice_bounds-digest_padded-end-2 : goal.slice_bounds-digest_padded-end-2
slice_bounds-digest_padded-end-2 c = simp length-take (
    omega (
      arith,
      length_front _ c.args.len c.requires.len_le_max_label_input c.requires.input_value,
      c.block_count-end.ensures,
    )
    )

pub returns : goal.returns
returns c =
    record {
      value = (hashed-laid c.args.input.now c.args.len c.requires.len_le_max_label_input c.requires.input_value
          c.block_count-end.ensures c.big_endian-count.ensures c.put.ensures c.put-2.ensures c.digest_padded.ensures).0;
      input_after = (hashed-laid c.args.input.now c.args.len c.requires.len_le_max_label_input c.requires.input_value
          c.block_count-end.ensures c.big_endian-count.ensures c.put.ensures c.put-2.ensures c.digest_padded.ensures).1;
    }
