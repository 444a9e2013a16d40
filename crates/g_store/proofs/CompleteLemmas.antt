-- FORMAT, START and RESTORE are complete.
-- serves: making_is_complete
use Rattle.std.proofs.Common.{◌≡◌, ℕ, true, List, [], Option, Some, None, refl, sym, ◌∙◌, ap, arith, subst, inl, inr}
use Rattle.std.specs.Prelude.{◌⊎◌, Contains, IfSome}
use Rattle.std.proofs.lemmas.Bool.{false≢true}
use Rattle.std.proofs.lemmas.Option.{none-some}
use Rattle.g_disc.specs.Disc.{DiscState}
use Rattle.g_entry.specs.declared.head.Intent.{Intent}
use Rattle.g_tape.specs.Rack.{Rack, is_mounted, reel}
use Rattle.g_plain.specs.declared.faults.StoreFault.{StoreFault}
use Rattle.g_plain.specs.declared.faults.StoreFault.TheVariants.{DiscReadFault, LostCopy, LostDirectory, MountFirst, NoDump, NoFilestore, NoMemory, RackNotEmpty, RackNotMounted, Stopped, TapeReadFault}
use Rattle.g_disc_contents.specs.Contents.{Contents, Holds}
use Rattle.g_disc_contents.proofs.HoldLemmas.{holds_one}
use Rattle.g_incr.specs.Layout.{Dump}
use Rattle.g_shelf.specs.CompletedDumps.{AreShelved, all_dumps}
use Rattle.g_shelf.specs.LastDump.{first_unmounted}
use Rattle.g_store_meaning.specs.Belonging.{Belong}
use Rattle.g_store_meaning.specs.Meaning.{told_reels}
use Rattle.g_store_meaning.specs.Reading.{ReelsTold}
use Rattle.g_restore.specs.Restoration.{IsOfDisc, IsOfReels}
use Rattle.g_restore.proofs.ReelLemmas.{all_of_reels}
use Rattle.g_store.specs.Completeness.{MakingIsComplete, NoDeviceFailed}
use Rattle.g_store.specs.Making.{RefusesFormat, RefusesRestore, RefusesStart}
use Rattle.g_store.specs.Refusing.{first_used}

module _ (disc : DiscState) (rack : Rack) (disc' : DiscState) (rack' : Rack) (nothing : NoDeviceFailed disc rack disc' rack') where
  format_by : (fault : StoreFault) → first_used rack.reels ≡ None → RefusesFormat disc rack fault disc' rack' → fault ≡ NoMemory
  format_by (RackNotEmpty serial) empty refused = absurd (none-some serial (sym empty ∙ (refused.full serial).0 refl))
  format_by DiscReadFault empty refused = absurd (nothing.disc_reads (refused.refuses.causes.reads_rose refl))
  format_by Stopped empty refused = absurd (nothing.disc_writes (refused.refuses.causes.writes_rose refl))
  format_by NoMemory empty refused = refl
  format_by fault empty refused = absurd refused.only

  module _ (blocks : List (List ℕ)) (c : Contents) (held : disc.held ≡ Some blocks) (holds : Holds blocks c) (mounted : IfSome c.head.intent (λ i. is_mounted (reel i.serial rack.reels) ≡ true)) where
    -- the reel of the intent is mounted
    up_by : (i : Intent) (serial : ℕ) → c.head.intent ≡ Some i → i.serial ≡ serial → is_mounted (reel serial rack.reels) ≡ true
    up_by i serial is same =
        let up : is_mounted (reel i.serial rack.reels) ≡ true = subst (λ (o : Option Intent). IfSome o (λ j. is_mounted (reel j.serial rack.reels) ≡ true)) is mounted in
        subst (λ (n : ℕ). is_mounted (reel n rack.reels) ≡ true) same up

    start_by : (fault : StoreFault) → RefusesStart disc rack fault disc' rack' → fault ≡ NoMemory
    start_by NoFilestore refused = absurd (refused.none refl blocks held c holds)
    start_by DiscReadFault refused = absurd (nothing.disc_reads (refused.refuses.causes.reads_rose refl))
    start_by (MountFirst serial) refused =
        let (other, it_holds, i, is, same) = refused.named serial refl blocks held in
        let one : c ≡ other = holds_one blocks c other holds it_holds in
        absurd (false≢true (sym (refused.first serial refl) ∙ up_by i serial (ap (λ (x : Contents). x.head.intent) one ∙ is) same))
    start_by TapeReadFault refused = absurd (nothing.tape_reads (refused.refuses.tape_read refl))
    start_by Stopped refused = absurd (nothing.disc_writes (refused.refuses.causes.writes_rose refl))
    start_by NoMemory refused = refl
    start_by fault refused = absurd refused.only

  module _ (shelf : ℕ → List Dump) (d : Dump) (told : ReelsTold (told_reels rack)) (shelved : AreShelved shelf (told_reels rack)) (there : Contains (all_dumps shelf (told_reels rack)) d)
      (mounted : first_unmounted rack.reels ≡ None) (belong : Belong disc.held rack) where
    no_dumps : all_dumps shelf (told_reels rack) ≡ [] → ⊥
    no_dumps none = let (i, inside, is) = subst (λ (ds : List Dump). Contains ds d) none there in let no : ⊥ = omega (arith, inside) in no

    restore_by : (fault : StoreFault) → RefusesRestore disc rack fault disc' rack' → IsOfReels fault ⊎ IsOfDisc fault → fault ≡ NoMemory
    restore_by (RackNotMounted serial) refused of = absurd (none-some serial (sym mounted ∙ (refused.unmounted serial).0 refl))
    restore_by TapeReadFault refused of = absurd (nothing.tape_reads (refused.refuses.tape_read refl))
    restore_by NoDump refused of = absurd (no_dumps (sym (all_of_reels (told_reels rack) [] shelf told shelved (refused.none refl))))
    restore_by (LostDirectory user) refused of = absurd (refused.found told belong)
    restore_by (LostCopy full serial) refused of = absurd (refused.found told belong)
    restore_by DiscReadFault refused of = absurd (nothing.disc_reads (refused.refuses.causes.reads_rose refl))
    restore_by Stopped refused of = absurd (nothing.disc_writes (refused.refuses.causes.writes_rose refl))
    restore_by NoMemory refused of = refl
    restore_by fault refused (inl never) = absurd never
    restore_by fault refused (inr never) = absurd never

pub making_complete : MakingIsComplete
making_complete = record {
  format = λ disc rack fault disc' rack' empty nothing refused. format_by disc rack disc' rack' nothing fault empty refused;
  start = λ disc rack fault disc' rack' blocks c held holds mounted nothing refused. start_by disc rack disc' rack' nothing blocks c held holds mounted fault refused;
  restore = λ disc rack fault disc' rack' shelf d told shelved there mounted belong nothing refused.
      restore_by disc rack disc' rack' nothing shelf d told shelved there mounted belong fault refused refused.only;
}
