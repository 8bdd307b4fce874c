-- Each refusal's number is from 1 to 21: it is not that of a call that was done, and a check's answer as one number fits.
use Prim.Native.Nat.{◌≤◌}
use lib.Dec.{lit≤}
use Rattle.base.specs.Number.{number_of}
use Rattle.base.specs.declared.refusal.Refusal.{Refusal}
use Rattle.base.specs.declared.refusal.Refusal.TheVariants.{Depth, MemoryLevel, ShortStore, State, TooManyBytes, LeafPosition, ShortOutput, Count}
use Rattle.base.specs.declared.refusal.Refusal.TheVariants.{NotWanted, BytesEnd, NotShortest, Edition, BytesLeft, LeafLabel, Root, ShortList}
use Rattle.base.specs.declared.refusal.Refusal.TheVariants.{Input, RecordLength, Runs}

pub number-le : (r : Refusal) → number_of r ≤ 21
number-le Depth = lit≤ tt
number-le MemoryLevel = lit≤ tt
number-le ShortStore = lit≤ tt
number-le State = lit≤ tt
number-le TooManyBytes = lit≤ tt
number-le LeafPosition = lit≤ tt
number-le ShortOutput = lit≤ tt
number-le Count = lit≤ tt
number-le NotWanted = lit≤ tt
number-le BytesEnd = lit≤ tt
number-le NotShortest = lit≤ tt
number-le Edition = lit≤ tt
number-le BytesLeft = lit≤ tt
number-le LeafLabel = lit≤ tt
number-le Root = lit≤ tt
number-le ShortList = lit≤ tt
number-le Input = lit≤ tt
number-le RecordLength = lit≤ tt
number-le Runs = lit≤ tt

pub number-some : (r : Refusal) → 1 ≤ number_of r
number-some Depth = lit≤ tt
number-some MemoryLevel = lit≤ tt
number-some ShortStore = lit≤ tt
number-some State = lit≤ tt
number-some TooManyBytes = lit≤ tt
number-some LeafPosition = lit≤ tt
number-some ShortOutput = lit≤ tt
number-some Count = lit≤ tt
number-some NotWanted = lit≤ tt
number-some BytesEnd = lit≤ tt
number-some NotShortest = lit≤ tt
number-some Edition = lit≤ tt
number-some BytesLeft = lit≤ tt
number-some LeafLabel = lit≤ tt
number-some Root = lit≤ tt
number-some ShortList = lit≤ tt
number-some Input = lit≤ tt
number-some RecordLength = lit≤ tt
number-some Runs = lit≤ tt
