-- The block of the place that was found.
use Rattle.std.proofs.Common.{◌≡◌, List, ℕ, ◌++◌, length, get_or, drop, sym, ap, ◌∙◌, rules}
use Rattle.store.proofs.Arrivals.{copied}
use Rattle.shelf.specs.declared.Place.{Place}
use Rattle.shelf.specs.Size.{place_count}
use Rattle.shelf.specs.Shown.{block_of, entry, entries}
use Rattle.shelf.proofs.Places.{entry_at}
use Rattle.shelf.proofs.calls.ShelfStore.copy_first.Goals as goal

pub returns : goal.returns
returns c =
    let s = c.args.self.now in
    let i : ℕ = c.in_ok-i.i in
    let x : Place = c.index-deref-i.result in
    let len : ℕ = length c.block-block.result.now in
    let at = entry_at s i x c.in_ok-i.ensures.here (c.index-deref-i.is ∙ ap (λ (ps : List Place). get_or ps i x) c.deref.ensures.0) in
    let bytes : c.block-block.result.now ≡ block_of x = c.block-block.ensures in
    let p =
    copied (entries s) place_count c.args.channel c.args.buffer.now _ i len (entry x) (entry x) c.in_ok-buffer.ensures c.in_ok-i.ensures at (ap length bytes)
    (ap (λ (v : List ℕ). v ++ drop len c.args.buffer.now) (c.copy_from_slice.ensures.after ∙ bytes)) in
    record { answer = p.0; buffer = p.1; sized = search rules }
