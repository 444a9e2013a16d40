use Rattle.std.proofs.Common.{ℕ, List, ◌∙◌, ap, subst, sym}
use Rattle.g_entry.specs.declared.file_rec.FileRec.{FileRec}
use Rattle.g_entry.specs.declared.file_rec.TapeCopy.{TapeCopy}
use Rattle.g_online.specs.declared.change.Change.TheVariants.{Adopt}
use Rattle.g_online.specs.AllowedChanges.{IsAllowed}
use Rattle.g_store.specs.Starting.{copies_named}
use Rattle.g_store.proofs.AdoptLemmas.{may_adopt}
use Rattle.g_store.proofs.starting.adopt.Goals as goal

pub adopt-requires : goal.adopt-requires
adopt-requires g c = record {
  allowed = subst (λ (cs : List (ℕ × TapeCopy)). IsAllowed (Adopt c.args.number cs) c.args.online.now)
      (sym (c.in-Ok.ensures ∙ ap (λ (fs : List FileRec). copies_named fs c.args.dumped.now) (c.files.ensures.value ∙ c.tree.ensures.files)))
      (may_adopt c.args.online.now c.args.number c.args.dumped.now c.requires.live c.requires.pins c.requires.tied c.requires.below c.requires.each);
}
