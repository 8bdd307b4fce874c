-- Document 01, 'Table and other cases': T1 to T12, as one table over the definitions.
use Rattle.std.specs.Prelude.{◌≡◌, ℕ, ◌-◌, ◌*◌, ◌^◌, List, [], ◌∷◌, length}
use Rattle.tree.specs.Nodes.{Node, node, root, labelling_order, parents}
use Rattle.tree.specs.Labels.{input_size}
use Rattle.tree.specs.Store.{slot, store_size}
use Rattle.groups.specs.Groups.{groups}
use Rattle.groups.specs.Reading.{refused, read_at}
use Rattle.file_head.specs.Layout.{file_size}
use Rattle.chain_theory.specs.Ways.{chain}
use Rattle.chain_theory.specs.Counts.{leaves_opened, largest_empty}

-- leaf 1101 of depth 4
abbrev pub leaf1101 : Node
leaf1101 = node 4 0b1101

-- the last leaf of depth 40
abbrev pub last_leaf : Node
last_leaf = node 40 (2 ^ 40 - 1)

-- T12's leaves: 0–3, 8, 9, 13–15
abbrev pub leaves12 : List ℕ
leaves12 = 0 ∷ 1 ∷ 2 ∷ 3 ∷ 8 ∷ 9 ∷ 13 ∷ 14 ∷ 15 ∷ []

pub record Table : Type 0 where
  -- 'Labelling order .. Depth 2 in binary: 00, 01, 0, 10, 11, 1, root'
  pub order : labelling_order 2 ≡ node 2 0b00 ∷ node 2 0b01 ∷ node 1 0b0 ∷ node 2 0b10 ∷ node 2 0b11 ∷ node 1 0b1 ∷ root ∷ []
  -- T1 depth 4, leaf 1101: parents 0, 10, 1100; input 137 bytes
  pub t1_parents : parents 4 leaf1101 ≡ node 1 0b0 ∷ node 2 0b10 ∷ node 4 0b1100 ∷ []
  pub t1_input : input_size 4 leaf1101 ≡ 137
  -- T2 leaf 0000: none, 41 bytes
  pub t2_parents : parents 4 (node 4 0) ≡ []
  pub t2_input : input_size 4 (node 4 0) ≡ 41
  -- T3 inner node: 105
  pub t3_input : input_size 4 (node 2 1) ≡ 105
  -- T4 depth 40, last leaf: 1,321
  pub t4_input : input_size 40 last_leaf ≡ 1321
  -- T5 store for m = 0: 32 bytes; m = 10: 65,504
  pub t5_least : store_size 0 ≡ 32
  pub t5_ten : store_size 10 ≡ 65504
  -- T6 level 2, position 3: slot 6
  pub t6_slot : slot (node 2 3) ≡ 32 * 6
  -- T7 128 is 80 01 (hex), 200 is C8 01; C8 00 is refused with 11
  pub t7_first : groups 2 128 ≡ 0x80 ∷ 0x01 ∷ []
  pub t7_second : groups 2 200 ≡ 0xC8 ∷ 0x01 ∷ []
  pub t7_refused : read_at (0xC8 ∷ 0x00 ∷ []) 0 2 ≡ refused 11
  -- T8 n = 1, t = 1: 131 bytes of file. T9 n = 40, t = 200: 262,468
  pub t8 : file_size 1 1 ≡ 131
  pub t9 : file_size 40 200 ≡ 262468
  -- T10 depth 2, leaf 0: chain 3
  pub t10 : length (chain 2 (0 ∷ [])) ≡ 3
  -- T11 leaves 0 and 3: chain 5
  pub t11 : length (chain 2 (0 ∷ 3 ∷ [])) ≡ 5
  -- T12 depth 4: k = 9, c = 3, chain 20
  pub t12_leaves : leaves_opened leaves12 ≡ 9
  pub t12_empty : largest_empty 4 leaves12 ≡ 3
  pub t12_chain : length (chain 4 leaves12) ≡ 20
