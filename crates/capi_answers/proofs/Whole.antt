-- An answer is the record of what its fields are.
use Prim.Native.Nat.{ℕ}
use mathlib.Core.List.{List}
use mathlib.Core.Path.{◌≡◌, sym}
use Rattle.sha256.specs.declared.Hash.{Hash}
use Rattle.run.specs.declared.Run.{Run}
use Rattle.opening.specs.declared.Opening.{Opening}
use Rattle.unit.specs.declared.StampingUnit.{StampingUnit}
use Rattle.unit.specs.declared.StorePlace.{StorePlace}
use Rattle.writing.specs.declared.Writing.{Writing}
use Rattle.proof_file.specs.declared.place.Place.{Place}
use Rattle.capi.specs.declared.hashes.HashUpdated.{HashUpdated}
use Rattle.capi.specs.declared.hashes.HashFinished.{HashFinished}
use Rattle.capi.specs.declared.hashes.HashDigest.{HashDigest}
use Rattle.capi.specs.declared.runs.RunStarted.{RunStarted}
use Rattle.capi.specs.declared.runs.RunAdvanced.{RunAdvanced}
use Rattle.capi.specs.declared.runs.RunRecorded.{RunRecorded}
use Rattle.capi.specs.declared.openings.OpeningStarted.{OpeningStarted}
use Rattle.capi.specs.declared.openings.OpeningAdvanced.{OpeningAdvanced}
use Rattle.capi.specs.declared.units.UnitAdvanced.{UnitAdvanced}
use Rattle.capi.specs.declared.files.Challenged.{Challenged}
use Rattle.capi.specs.declared.files.HeadRead.{HeadRead}
use Rattle.capi.specs.declared.writings.WritingStarted.{WritingStarted}
use Rattle.capi.specs.declared.writings.WritingAdvanced.{WritingAdvanced}
use Rattle.capi.specs.declared.chains.Planned.{Planned}
use Rattle.capi.specs.declared.chains.Compared.{Compared}
use Rattle.capi.specs.declared.chains.Drawn.{Drawn}
use Rattle.capi.specs.declared.chains.Clash.{Clash}

pub clash :
    (r : Clash) {a b c : ℕ} {d e f : List ℕ} →
    r.i ≡ a → r.j ≡ b → r.level ≡ c → r.first ≡ d → r.second ≡ e → r.zero ≡ f →
    r ≡ record { i = a; j = b; level = c; first = d; second = e; zero = f }
clash r pa pb pc pd pe pf = rw (sym pa, sym pb, sym pc, sym pd, sym pe, sym pf)

pub hash-updated : (r : HashUpdated) {a : ℕ} {b : Hash} → r.refusal ≡ a → r.hash ≡ b → r ≡ record { refusal = a; hash = b }
hash-updated r pa pb = rw (sym pa, sym pb)

pub hash-finished :
    (r : HashFinished) {a b : ℕ} {c : List ℕ} {d : Hash} →
    r.refusal ≡ a → r.blocks ≡ b → r.digest ≡ c → r.hash ≡ d →
    r ≡ record { refusal = a; blocks = b; digest = c; hash = d }
hash-finished r pa pb pc pd = rw (sym pa, sym pb, sym pc, sym pd)

pub hash-digest :
    (r : HashDigest) {a b : ℕ} {c : List ℕ} →
    r.refusal ≡ a → r.blocks ≡ b → r.digest ≡ c →
    r ≡ record { refusal = a; blocks = b; digest = c }
hash-digest r pa pb pc = rw (sym pa, sym pb, sym pc)

pub run-started : (r : RunStarted) {a : ℕ} {b : Run} → r.refusal ≡ a → r.run ≡ b → r ≡ record { refusal = a; run = b }
run-started r pa pb = rw (sym pa, sym pb)

pub run-advanced :
    (r : RunAdvanced) {a b c : ℕ} {d : Run} →
    r.refusal ≡ a → r.labels ≡ b → r.blocks ≡ c → r.run ≡ d →
    r ≡ record { refusal = a; labels = b; blocks = c; run = d }
run-advanced r pa pb pc pd = rw (sym pa, sym pb, sym pc, sym pd)

pub run-recorded : (r : RunRecorded) {a b : ℕ} → r.refusal ≡ a → r.size ≡ b → r ≡ record { refusal = a; size = b }
run-recorded r pa pb = rw (sym pa, sym pb)

pub opening-started :
    (r : OpeningStarted) {a : ℕ} {b : Opening} →
    r.refusal ≡ a → r.opening ≡ b →
    r ≡ record { refusal = a; opening = b }
opening-started r pa pb = rw (sym pa, sym pb)

pub opening-advanced :
    (r : OpeningAdvanced) {a b c : ℕ} {d : Opening} →
    r.refusal ≡ a → r.labels ≡ b → r.blocks ≡ c → r.opening ≡ d →
    r ≡ record { refusal = a; labels = b; blocks = c; opening = d }
opening-advanced r pa pb pc pd = rw (sym pa, sym pb, sym pc, sym pd)

pub unit-advanced :
    (r : UnitAdvanced) {a b c : ℕ} {d : StampingUnit} →
    r.refusal ≡ a → r.labels ≡ b → r.blocks ≡ c → r.unit ≡ d →
    r ≡ record { refusal = a; labels = b; blocks = c; unit = d }
unit-advanced r pa pb pc pd = rw (sym pa, sym pb, sym pc, sym pd)

pub store-place : (r : StorePlace) {a b : ℕ} → r.offset ≡ a → r.length ≡ b → r ≡ record { offset = a; length = b }
store-place r pa pb = rw (sym pa, sym pb)

pub challenged : (r : Challenged) {a b : ℕ} → r.refusal ≡ a → r.leaf ≡ b → r ≡ record { refusal = a; leaf = b }
challenged r pa pb = rw (sym pa, sym pb)

pub head_read :
    (r : HeadRead) {a b c d : ℕ} →
    r.refusal ≡ a → r.edition ≡ b → r.depth ≡ c → r.count ≡ d →
    r ≡ record { refusal = a; edition = b; depth = c; count = d }
head_read r pa pb pc pd = rw (sym pa, sym pb, sym pc, sym pd)

pub place : (r : Place) {a b : ℕ} → r.offset ≡ a → r.length ≡ b → r ≡ record { offset = a; length = b }
place r pa pb = rw (sym pa, sym pb)

pub writing-started :
    (r : WritingStarted) {a : ℕ} {b : Writing} →
    r.refusal ≡ a → r.writing ≡ b →
    r ≡ record { refusal = a; writing = b }
writing-started r pa pb = rw (sym pa, sym pb)

pub writing-advanced :
    (r : WritingAdvanced) {a b c : ℕ} {d : Writing} →
    r.refusal ≡ a → r.labels ≡ b → r.blocks ≡ c → r.writing ≡ d →
    r ≡ record { refusal = a; labels = b; blocks = c; writing = d }
writing-advanced r pa pb pc pd = rw (sym pa, sym pb, sym pc, sym pd)

pub planned : (r : Planned) {a b : ℕ} → r.refusal ≡ a → r.count ≡ b → r ≡ record { refusal = a; count = b }
planned r pa pb = rw (sym pa, sym pb)

pub compared : (r : Compared) {a : ℕ} {b : Clash} → r.refusal ≡ a → r.clash ≡ b → r ≡ record { refusal = a; clash = b }
compared r pa pb = rw (sym pa, sym pb)

pub drawn :
    (r : Drawn) {a b c : ℕ} {d : Clash} →
    r.kind ≡ a → r.code ≡ b → r.count ≡ c → r.clash ≡ d →
    r ≡ record { kind = a; code = b; count = c; clash = d }
drawn r pa pb pc pd = rw (sym pa, sym pb, sym pc, sym pd)
