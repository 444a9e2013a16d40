use Rattle.std.proofs.Common.{true, ◌≡◌, ◌∙◌, ◌-◌, ◌<◌, ◌≤◌, List, ap, arith, get_or, get_or-take, inl, inr, length, length-set, length-take-le, reverse, set, subst, sym, take, ℕ}
use Rattle.std.proofs.lemmas.List.{length-reverse}
use Rattle.std.specs.Prelude.{if◌then◌else◌}
use Rattle.g_macro.specs.Expansion.{substituted}
use Rattle.g_macro.specs.Fronts.{IsFilled}
use Rattle.g_macro.specs.Levels.{Level, Line, Stack, Taken, TooLong, has_line, line_at, line_taken, live}
use Rattle.g_macro.proofs.StackLemmas.{any-line, line-next, same-at, takes-line}
use Rattle.g_macro.proofs.levels.Levels.next_line.Goals as goal
use Rattle.g_macro.proofs.levels.Levels.next_line.Goals.{then-filled, else-filled}

pub returns : goal.returns
returns c =
    let items = c.self.inside.levels.items in
    let held = c.self.inside.held in
    let n = c.live_levels-live.result in
    let old = c.index.result.now in
    let filled = c.in_ok-filled.filled in
    let slice : c.as_slice.result.now ≡ c.self.inside.levels.items = c.as_slice.ensures.value in
    let some : 0 < n = omega (arith, c.if-live-eq0.false) in
    let within : n ≤ length items = omega (arith, c.live_levels-live.ensures.within, ap length slice) in
    let inside : n - 1 < length items = omega (arith, some, within) in
    let lives : live held (reverse items) ≡ reverse (take n items) =
    ap (λ (ls : List Level). live held (reverse ls)) (sym slice) ∙ c.live_levels-live.ensures.same ∙ ap (λ (ls : List Level). reverse (take n ls)) slice in
    let line : has_line old ≡ true = sym c.has_line.ensures ∙ c.if-not-has_line.false in
    let same_level : c.index-level.result.now ≡ old = same-at items (n - 1) c.index-level.result.now old inside c.index-level.ensures c.index.ensures in
    let cut : c.truncate-2.new.self.items ≡ take n items = c.truncate-2.ensures.items in
    let below : n - 1 < n = omega (arith, some) in
    let here : c.index_mut.result.now ≡ get_or items (n - 1) c.index_mut.result.now =
    c.index_mut.ensures.value ∙ ap (λ (ls : List Level). get_or ls (n - 1) c.index_mut.result.now) cut
    ∙ get_or-take n items (n - 1) c.index_mut.result.now below in
    let same_mut : c.index_mut.result.now ≡ old = same-at items (n - 1) c.index_mut.result.now old inside here c.index.ensures in
    let new : c.pass_line.new.self ≡ line_taken old = c.pass_line.ensures ∙ ap line_taken same_mut in
    let text : c.line-line.result.now ≡ line_at old = c.line-line.ensures ∙ ap line_at same_level in
    let holds : IsFilled (substituted old.params (line_at old)) filled =
    subst (λ (l : Level). IsFilled (substituted l.params (line_at old)) filled) same_level
    (subst (λ (t : List ℕ). IsFilled (substituted c.index-level.result.now.params t) filled) text c.in_ok-filled.ensures) in
    let next = line-next items held n old c.pass_line.new.self filled c.args.self.now c.self.view_is some within lives c.index.ensures line new holds in
    let view : Stack = record { levels = reverse (set c.truncate-2.new.self.items (n - 1) c.pass_line.new.self); held = held } in
    let next_here = next ∙ ap (λ (ls : List Level). let p : Taken × Stack = ((if filled.is_cut then TooLong filled.text else Line filled.text), record { levels = reverse (set ls (n - 1) c.pass_line.new.self); held = held }) in p) (sym cut) in
    record {
      line = takes-line c.args.self.now view filled c.if-filled.result next_here
          (elim c.if-filled.branch [
            | then-filled w ↦ inl (w.if-filled.true, w.result-is)
            | else-filled w ↦ inr (w.if-filled.false, w.result-is)
          ]);
      current = any-line c.if-filled.result
          (let few = length-reverse (set c.truncate-2.new.self.items (n - 1) c.pass_line.new.self) in
          let kept = length-set c.truncate-2.new.self.items (n - 1) c.pass_line.new.self in
          omega (arith, few, kept, ap length cut, length-take-le n items within, some));
    }
