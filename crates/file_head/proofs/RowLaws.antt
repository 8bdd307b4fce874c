-- Document 01's rows 'A challenge' and 'Writing the file's head' are done just when none of their conditions holds.
use mathlib.Core.Path.{◌≡◌, refl}
use Prim.Native.Nat.{ℕ, ◌≤◌}
use mathlib.Core.Bool.{Bool}
use mathlib.Core.List.{List, [], ◌∷◌}
use lib.Dec.{ltb}
use borrow.Author.Tests.{ltb-false, le-ltb}
use Rattle.base.specs.Limits.{max_edition, max_depth, max_challenges, IsEdition, IsDepth, IsCount}
use Rattle.base.specs.Row.{outside, no_edition}
use Rattle.base.proofs.RowLaws.{NoneHolds, none-holds}
use Rattle.base.proofs.Ranges.{within, range-of}
use Rattle.file_head.specs.Challenge.{challenge_row}
use Rattle.file_head.specs.Layout.{file_size, head_row}

module _ (edition n i : ℕ) where
  pub challenge-done : IsEdition edition → IsDepth n → IsCount i → challenge_row edition n i ≡ 0
  unfolding challenge_row
  challenge-done exists depth count = rw (within 1 max_edition edition exists, within 1 max_depth n depth, within 1 max_challenges i count)

  pub done-challenge : challenge_row edition n i ≡ 0 → IsEdition edition × IsDepth n × IsCount i
  unfolding challenge_row
  done-challenge e =
      let row : List (Bool × ℕ) = (no_edition edition, 12) ∷ (outside 1 max_depth n, 1) ∷ (outside 1 max_challenges i, 8) ∷ [] in
      let none : NoneHolds row = none-holds row refl e in
      (range-of 1 max_edition edition none.0, range-of 1 max_depth n none.1.0, range-of 1 max_challenges i none.1.1.0)

module _ (edition n t out : ℕ) where
  pub head_done : IsEdition edition → IsDepth n → IsCount t → file_size n t ≤ out → head_row edition n t out ≡ 0
  unfolding head_row
  head_done exists depth count fits =
      rw (
        within 1 max_edition edition exists,
        within 1 max_depth n depth,
        within 1 max_challenges t count,
        le-ltb out (file_size n t) fits,
      )

  pub done-head : head_row edition n t out ≡ 0 → IsEdition edition × IsDepth n × IsCount t × (file_size n t ≤ out)
  unfolding head_row
  done-head e =
      let row : List (Bool × ℕ) =
      (no_edition edition, 12) ∷ (outside 1 max_depth n, 1) ∷ (outside 1 max_challenges t, 8) ∷ (ltb out (file_size n t), 7) ∷ [] in
      let none : NoneHolds row = none-holds row refl e in (
        range-of 1 max_edition edition none.0,
        range-of 1 max_depth n none.1.0,
        range-of 1 max_challenges t none.1.1.0,
        ltb-false out (file_size n t) none.1.1.1.0,
      )
