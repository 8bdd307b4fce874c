-- `chain::climbing::code_at` meets its contract.
use Rattle.chain_theory.proofs.Turns.{next-leaf, next-none}
use Rattle.chain_theory.proofs.Lists.{every-at}
use Rattle.chain_theory.specs.Planning.{is_leaf}
use Rattle.std.proofs.lemmas.Grind.{common_steps}
use Rattle.std.proofs.lemmas.Option.{gets}
use borrow.Author.Tests.{ltb-true}
use lib.ListN.{get_or, length}
use Prim.Native.Nat.{◌^◌, ◌<◌, ◌≤◌}
use mathlib.Core.Path.{◌≡◌}
use native.Mathlib.Omega.{arith}
use Rattle.chain.proofs.climbing.code_at.Goals as goal

pub overflow_add-result : goal.overflow_add-result
unfolding is_leaf
overflow_add-result c =
    let inside : c.args.i < length c.args.leaves.now = grind (arith, common_steps, gets) in
    let leaf : get_or c.args.leaves.now c.args.i 0 ≡ c.in-Some.leaf.now = grind (arith, common_steps, gets) in
    omega (
      arith,
      c.width.ensures,
      ltb-true (get_or c.args.leaves.now c.args.i 0) (2 ^ c.args.depth) (every-at (is_leaf c.args.depth) c.args.leaves.now c.requires.inside 0 c.args.i inside),
    )

pub returns-in-Some : goal.returns-in-Some
returns-in-Some c =
    let inside : c.args.i < length c.args.leaves.now = grind (arith, common_steps, gets) in
    let leaf : get_or c.args.leaves.now c.args.i 0 ≡ c.in-Some.leaf.now = grind (arith, common_steps, gets) in
    omega (arith, c.width.ensures, next-leaf c.args.depth c.args.leaves.now c.args.i inside)

pub returns-in-None : goal.returns-in-None
returns-in-None c =
    let past : length c.args.leaves.now ≤ c.args.i = grind (arith, common_steps, gets) in
    omega (arith, next-none c.args.depth c.args.leaves.now c.args.i past)
