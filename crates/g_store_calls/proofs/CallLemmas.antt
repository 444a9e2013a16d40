-- A call of a job: from what is answered for disc and rack to what the store answers.
-- serves: crates above
use Rattle.std.proofs.Common.{◌≡◌, ℕ, Bool, true, false, List, [], ◌∷◌, map, Option, Some, Result, Err, refl, sym, ◌∙◌, ap, subst}
use Rattle.std.specs.Prelude.{◌==◌, ◌↔◌, if◌then◌else◌, not}
use Rattle.std.proofs.lemmas.Bool.{false≢true}
use Rattle.g_tape.specs.Rack.{Rack, is_mounted, reel}
use Rattle.g_tape.specs.Reads.{OnlyReads, unread}
use Rattle.g_tape.specs.Reel.{Reel}
use Rattle.g_plain.specs.declared.calls.StoreCall.{StoreCall}
use Rattle.g_plain.specs.declared.calls.StoreReply.{StoreReply}
use Rattle.g_plain.specs.declared.faults.StoreFault.{StoreFault}
use Rattle.g_plain.specs.declared.faults.StoreFault.TheVariants.{Stopped, WaitTape}
use Rattle.g_disc_contents.specs.Facts.{OnlineFacts}
use Rattle.g_store_meaning.specs.Answers.{Answers, IsStore}
use Rattle.g_store_meaning.specs.StoreInvariant.{StoreFacts}
use Rattle.g_store_calls.specs.Answering.{AnswersOver, KeepsPlan}
use Rattle.g_store_calls.specs.Kinds.{IsKind, stops_call}

-- A STOP is what spends
stop_is : (answer : Result StoreReply StoreFault) → stops_call answer ≡ true → answer ≡ Err Stopped
stop_is (Err Stopped) is = refl
stop_is answer is = absurd (false≢true is)

flag_of : (answer : Result StoreReply StoreFault) (b : Bool) → (b ≡ true) ↔ (answer ≡ Err Stopped) → stops_call answer ≡ b
flag_of answer true is = ap stops_call (is.0 refl)
flag_of answer false is = isnt (stops_call answer) refl
  where
    isnt : (t : Bool) → stops_call answer ≡ t → stops_call answer ≡ false
    isnt true stops = absurd (false≢true (is.1 (stop_is answer stops)))
    isnt false stops = stops

-- the same reels are mounted after a call
by_serial : (b : Bool) (r : Reel) (x y : Option Reel) → is_mounted x ≡ is_mounted y → is_mounted (if b then Some (unread r) else x) ≡ is_mounted (if b then Some r else y)
by_serial true r x y same = refl
by_serial false r x y same = same

unread_mounted : (serial : ℕ) (reels : List Reel) → is_mounted (reel serial (map unread reels)) ≡ is_mounted (reel serial reels)
unread_mounted serial [] = refl
unread_mounted serial (r ∷ rs) = by_serial (serial == r.serial) r (reel serial (map unread rs)) (reel serial rs) (unread_mounted serial rs)

pub same_mounts : (old new : Rack) → OnlyReads old new → (serial : ℕ) → is_mounted (reel serial new.reels) ≡ is_mounted (reel serial old.reels)
same_mounts old new only serial =
    sym (unread_mounted serial new.reels) ∙ ap (λ (rs : List Reel). is_mounted (reel serial rs)) only.reels ∙ unread_mounted serial old.reels

-- THE STORE'S ANSWER
module _ (old : StoreFacts) (who : List ℕ) (call : StoreCall) (answer : Result StoreReply StoreFault) (new : OnlineFacts) (after : Rack) (spent : Bool) (unspent : old.spent ≡ false)
    (store : IsStore old) (plan : KeepsPlan old.dump) (answers : AnswersOver who call old.online old.rack answer new after) (stops : spent ≡ stops_call answer) where
  abbrev behind : StoreFacts
  behind = record old { online = new; rack = after; spent = spent }

  pub answered : Answers old who call answer behind
  answered =
      let over = answers old refl refl unspent store plan in
      subst (λ (b : Bool). let t : StoreFacts = record old { online = new; rack = after; spent = b } in Answers old who call answer t)
      (sym (stops ∙ flag_of answer (not new.live) over.spent)) over

-- seen from the store's own facts
module _ (who : List ℕ) (call : StoreCall) (answer : Result StoreReply StoreFault) (old t : StoreFacts) (same : t ≡ old) (unspent : old.spent ≡ false) (store : IsStore t) (plan : KeepsPlan t.dump)
    (new : OnlineFacts) (after : Rack) (answers : AnswersOver who call t.online t.rack answer new after) (spent : Bool) (stops : spent ≡ stops_call answer) where
  pub called : Answers old who call answer (record t { online = new; rack = after; spent = spent })
  called =
      subst (λ (s : StoreFacts). Answers s who call answer (record t { online = new; rack = after; spent = spent })) same
      (answered t who call answer new after spent (ap (λ (s : StoreFacts). s.spent) same ∙ unspent) store plan answers stops)

  pub same_waits : (serial : ℕ) → not (is_mounted (reel serial after.reels)) ≡ not (is_mounted (reel serial old.rack.reels))
  same_waits serial = ap not (same_mounts old.rack after called.cause.tapes serial)

  pub waits : IsKind call t.rack answer → (serial : ℕ) → answer ≡ Err (WaitTape serial) → not (is_mounted (reel serial after.reels)) ≡ true
  waits kind serial is = same_waits serial ∙ ap not (ap (λ (s : StoreFacts). is_mounted (reel serial s.rack.reels)) (sym same) ∙ kind.waits serial is)
