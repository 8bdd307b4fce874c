-- A number halved as often as its logarithm says.
use Rattle.std.proofs.Common.{◌≡◌, ℕ, zero, suc, ◌*◌, ◌/◌, ◌^◌, ◌≤◌, ◌<◌, min, arith}
use borrow.Author.Tests.{lt-ltb, le-ltb}
use Rattle.pace.specs.Pace.{height}

pub height_log : (k l made : ℕ) → 2 ^ l ≤ made → made < 2 * 2 ^ l → height k made ≡ min k l
unfolding height
height_log zero l made h less = omega arith
height_log (suc k) zero made h less = rw (lt-ltb made 2 (omega arith)) (omega arith)
height_log (suc k) (suc l) made h less =
    let e : height k (made / 2) ≡ min k l = height_log k l (made / 2) (omega arith) (omega arith) in
    rw (le-ltb made 2 (omega arith)) (omega arith)
