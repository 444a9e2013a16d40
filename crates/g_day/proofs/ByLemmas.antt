-- WHAT A LINE COUNTS AND LEAVES OF COMPLETED DUMPS: a line but a PROCESS as any event of the disc, and a PROCESS as one of both devices.
-- serves: LineLemmas, UpLemmas, crates above
use Rattle.std.proofs.Common.{◌≡◌, ℕ, Bool, true, false, List, [], ◌∷◌, map, refl, sym, ◌∙◌, ap, subst}
use Rattle.g_tape.specs.Rack.{Rack}
use Rattle.g_tape.specs.Reads.{unread}
use Rattle.g_tape.specs.Reel.{Reel}
use Rattle.g_store_meaning.specs.Meaning.{told_reels}
use Rattle.g_laws_store.specs.Moving.{DumpsMove, HasSameReels}
use Rattle.g_laws_store.proofs.MoveLemmas.{moving_goes_on}
use Rattle.g_store_model.specs.CallStep.{Plain}
use Rattle.g_script.specs.declared.operator.Operator.{Operator}
use Rattle.g_run_model.specs.Devices.{Devices}
use Rattle.g_run_model.specs.Lines.{is_process}
use Rattle.g_run_model.specs.Moves.{EventCounted, LineCounted}
use Rattle.g_day.specs.Parts.{CountedBy, DumpsBy, disc_arms, tape_arms}
use Rattle.g_day.specs.System.{DumpsGrow, labels}

-- a line in which no device failed, and that arms none
pub plain_counted : (what : Operator) → disc_arms what ≡ [] → tape_arms what ≡ [] → (old new : Devices) → EventCounted Plain [] [] old new → CountedBy what Plain old new
plain_counted what no_disc no_tape old new counted =
    subst (λ (ks : List ℕ). LineCounted (is_process what) Plain ks (tape_arms what) old new) (sym no_disc)
    (subst (λ (ks : List ℕ). LineCounted (is_process what) Plain [] ks old new) (sym no_tape) (by (is_process what)))
  where
    by : (process : Bool) → LineCounted process Plain [] [] old new
    by true = counted
    by false = counted

-- DUMPS THAT GREW HAVE MOVED, and what has moved twice has moved
pub moves_grown : (old new : Rack) → DumpsGrow old new → DumpsMove old new
moves_grown old new grows = moving_goes_on.grown old new grows.grow

pub grown_by : (process : Bool) (old new : Rack) → DumpsGrow old new → DumpsBy process old new
grown_by true old new grows = moves_grown old new grows
grown_by false old new grows = grows

pub moved_by : (process : Bool) (old new : Rack) → DumpsBy process old new → DumpsMove old new
moved_by true old new moves = moves
moved_by false old new grows = moves_grown old new grows

named_unread : (rs : List Reel) → map (λ (r : Reel). r.serial) (map unread rs) ≡ map (λ (l : ℕ × ℕ). l.0) (labels rs)
named_unread [] = refl
named_unread (r ∷ rs) = ap (λ (ns : List ℕ). r.serial ∷ ns) (named_unread rs)

pub same_reels : (old new : Rack) → labels new.reels ≡ labels old.reels → HasSameReels old new
same_reels old new same = named_unread new.reels ∙ ap (λ (ls : List (ℕ × ℕ)). map (λ (l : ℕ × ℕ). l.0) ls) same ∙ sym (named_unread old.reels)

pub moves_then : (a b c : Rack) → labels c.reels ≡ labels b.reels → DumpsMove a b → DumpsMove b c → DumpsMove a c
moves_then a b c same first later = moving_goes_on.again a b c (same_reels b c same) first later
