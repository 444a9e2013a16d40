use Rattle.std.proofs.Common.{◌≡◌, ◌∙◌, ◌∷◌, ◌++◌, ◌<◌, ◌≤◌, [], All, Some, None, ap, sym, subst, refl, arith, length, length-set, length-append, List}
use Rattle.std.proofs.lemmas.List.Elements.{All-set, All-push}
use Rattle.g_lang.specs.Lines.{IsCommandText}
use Rattle.g_macro.specs.Levels.{Level, entry_kept, has_cond, place_of_cond}
use Rattle.g_macro.specs.declared.entry.Entry.{Entry}
use Rattle.g_macro.proofs.LevelLemmas.{place-within, kept-none, kept-some, not-full, has-room, full-in}
use Rattle.g_macro.proofs.level.Level.keep.Goals as goal

pub index_mut-requires : goal.index_mut-requires
index_mut-requires c =
    let at : place_of_cond c.args.cond c.self.inside.entries.items ≡ Some c.in-Some.place =
    ap (place_of_cond c.args.cond) (sym c.as_slice.ensures.value) ∙ sym c.place_of.ensures ∙ c.in-Some.is in
    let below : c.in-Some.place < length c.self.inside.entries.items = place-within c.args.cond c.self.inside.entries.items (Some c.in-Some.place) at in
    omega (arith, below, c.self.inside.entries.ok.0)

pub invariant_of-self : goal.invariant_of-self
invariant_of-self c = record {
  params = c.self.invariant.params;
  taken = c.self.invariant.taken;
  entries = let few = c.self.invariant.entries in let entry : Entry = record { cond = c.index_mut.result.now.cond; command = c.args.command } in omega (arith, few, length-set c.self.inside.entries.items c.in-Some.place entry);
  commands = All-set (λ (entry : Entry). IsCommandText entry.command) c.self.inside.entries.items c.in-Some.place _ c.requires c.self.invariant.commands;
}

pub returns-in-Some : goal.returns-in-Some
returns-in-Some c =
    let at : place_of_cond c.args.cond c.self.inside.entries.items ≡ Some c.in-Some.place =
    ap (place_of_cond c.args.cond) (sym c.as_slice.ensures.value) ∙ sym c.place_of.ensures ∙ c.in-Some.is in
    let kept = kept-some c.args.cond c.args.command c.self.inside.entries.items c.in-Some.place c.index_mut.result.now at c.index_mut.ensures.value in (
      not-full c.args.cond c.args.self.now (ap (λ (l : Level). has_cond c.args.cond l.entries) (sym c.self.view_is) ∙ kept.0),
      ap (λ (es : List Entry). let l : Level = record { lines = c.self.inside.cursor.lines; params = c.self.inside.params; taken = c.self.inside.cursor.taken; entries = es } in l) (sym kept.1)
          ∙ ap (entry_kept c.args.cond c.args.command) c.self.view_is,
    )

pub returns-then-len-ge-ENTRIES : goal.returns-then-len-ge-ENTRIES
returns-then-len-ge-ENTRIES c =
    let at : place_of_cond c.args.cond c.self.inside.entries.items ≡ None =
    ap (place_of_cond c.args.cond) (sym c.as_slice.ensures.value) ∙ sym c.place_of.ensures ∙ c.in_default.is in
    let most : 16 ≤ length c.args.self.now.entries =
    omega (arith, c.if-len-ge-ENTRIES.true, c.len.ensures, c.self.inside.entries.ok.0, ap (λ (l : Level). length l.entries) c.self.view_is) in
    (full-in c.args.cond c.args.self.now (ap (λ (l : Level). has_cond c.args.cond l.entries) (sym c.self.view_is) ∙ (kept-none c.args.cond c.args.command c.self.inside.entries.items at).0) most, refl)

pub invariant_of-self-2 : goal.invariant_of-self-2
invariant_of-self-2 c =
    let entry : Entry = record { cond = c.args.cond; command = c.args.command } in
    let pushed : c.push.new.self.items ≡ c.self.inside.entries.items ++ entry ∷ [] = c.in_ok-push.ensures.items in
    record {
      params = c.self.invariant.params;
      taken = c.self.invariant.taken;
      entries =
          let room = c.if-len-ge-ENTRIES.false in
          omega (arith, room, c.len.ensures, c.self.inside.entries.ok.0, ap length pushed, length-append c.self.inside.entries.items (entry ∷ []));
      commands = subst (All (λ (e : Entry). IsCommandText e.command)) (sym pushed)
          (All-push (λ (e : Entry). IsCommandText e.command) c.self.inside.entries.items entry c.self.invariant.commands c.requires);
    }

pub returns : goal.returns
returns c =
    let at : place_of_cond c.args.cond c.self.inside.entries.items ≡ None =
    ap (place_of_cond c.args.cond) (sym c.as_slice.ensures.value) ∙ sym c.place_of.ensures ∙ c.in_default.is in
    let kept = kept-none c.args.cond c.args.command c.self.inside.entries.items at in
    let entry : Entry = record { cond = c.args.cond; command = c.args.command } in
    let pushed : c.push.new.self.items ≡ c.self.inside.entries.items ++ entry ∷ [] = c.in_ok-push.ensures.items in
    let room : length c.args.self.now.entries < 16 =
    omega (arith, c.if-len-ge-ENTRIES.false, c.len.ensures, c.self.inside.entries.ok.0, ap (λ (l : Level). length l.entries) c.self.view_is) in (
      has-room c.args.cond c.args.self.now room,
      ap (λ (es : List Entry). let l : Level = record { lines = c.self.inside.cursor.lines; params = c.self.inside.params; taken = c.self.inside.cursor.taken; entries = es } in l) (pushed ∙ sym kept.1)
          ∙ ap (entry_kept c.args.cond c.args.command) c.self.view_is,
    )
