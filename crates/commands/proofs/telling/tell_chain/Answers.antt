-- `commands::telling::tell_chain` meets its contract: a chain that was drawn stands in the list.
use Rattle.std.proofs.Common.{◌≡◌, length, arith, rules}
use Rattle.base.specs.Limits.{max_chain}
use Rattle.planning.specs.Output.{max_output}
use Rattle.drawing_text.proofs.ChainLaws.{chain-in}
use Rattle.commands.proofs.telling.tell_chain.Goals as goal

pub put_drawing-length-requires : goal.put_drawing-length-requires
put_drawing-length-requires c =
    let a = c.args in
    let found = c.found_in-found.result in
    let d = c.draw-drawing in
    let places : length c.empty_list-list.result ≡ max_chain = search rules in
    let room : length c.empty_text-text.result ≡ max_output = search rules in (
      chain-in a.file.now a.statement found.depth found.count d.result c.empty_list-list.result _ places
          d.ensures.drawing_value d.ensures.list_after (omega (arith, d.auto.list)),
      omega (arith, room),
    )
