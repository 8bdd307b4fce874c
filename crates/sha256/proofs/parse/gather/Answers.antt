use Rattle.std.proofs.Common.{◌≡◌, ℕ, ◌+◌, ◌*◌, ◌/◌, ◌<◌, List, [], length, get_or, ◌∙◌, ap, sym, arith, rules}
use Rattle.std.proofs.Math.ListN.{set, length-set}
use Rattle.std.proofs.lemmas.List.FromFn.{fill_by_all}
use Rattle.std.proofs.lemmas.List.Edits.{fill_by_more}
use Rattle.sha256.specs.Padding.{word_at}
use Rattle.sha256.proofs.Gather.{get_or-first_chunks, word-from, words-mapped}
use Rattle.sha256.proofs.parse.gather.Goals as goal

filled : (f : ℕ → ℕ) (xs : List ℕ) (n i y : ℕ) → length xs ≡ n → i < n → y ≡ f i → ((k : ℕ) → k < i → get_or xs k 0 ≡ f k)
    → (length (set xs i y) ≡ n) × ((k : ℕ) → k < i + 1 → get_or (set xs i y) k 0 ≡ f k)
filled f xs n i y l h e below = rw e (rw length-set l, fill_by_more f xs i 0 (omega arith) below)

pub loop-i-preserved : goal.loop-i-preserved
loop-i-preserved c =
    let b = c.args.block.now in
    let i = c.loop-i.i in
    let whole : length b ≡ 64 = search rules in
    let part = ap (λ (l : List (List ℕ)). get_or l i []) c.as_chunks.ensures.front ∙ get_or-first_chunks 4 (length b / 4) b i [] (omega arith) in
    filled (λ k. word_at b (4 * k)) _ 16 i _ c.loop-i.invariant.0 c.loop-i-test.true
    (c.from_be_bytes.ensures ∙ word-from b _ (4 * i) part)
    c.loop-i.invariant.1

pub returns : goal.returns
returns c =
    let b = c.args.block.now in
    fill_by_all (λ k. word_at b (4 * k)) c.loop-i.word-items 16 0 c.loop-i.invariant.0 (search rules) ∙ sym (words-mapped b)
