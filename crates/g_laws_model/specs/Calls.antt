-- A job's call, defined as a value: its refusals in one list, and the versions that are taken offline for it as
-- another.
use Rattle.std.specs.Prelude.{◌≡◌, ℕ, ◌+◌, ◌==◌, Bool, false, not, ◌&&◌, ◌||◌, ◌↔◌, nat_lt, nat_le, List, [], ◌∷◌, map, filter, sum_by, Option, Result, option_map, if◌then◌else◌}
use Rattle.std.specs.List.{list_any}
use Rattle.std.specs.FinMap.{entries, from_sorted}
use Rattle.g_plain.specs.declared.calls.StoreCall.{StoreCall}
use Rattle.g_plain.specs.declared.calls.StoreReply.{StoreReply}
use Rattle.g_plain.specs.declared.faults.StoreFault.{StoreFault}
use Rattle.g_plain.specs.declared.faults.StoreFault.TheVariants.{DiscFull, DiscReadFault, TapeReadFault, WaitTape}
use Rattle.g_plain.specs.PlainStep.{fault_of, plain_tree, reply_to}
use Rattle.g_store_model.specs.State.{Holding, State, blocks_of, is_candidate, is_mounted, is_taken, only_if, room, taken_offline, without_all}
use Rattle.g_store_model.specs.CallStep.{CallStep, IsUnjam, Outcome, brings_now, changes, commits, is_cut, is_disc_read, is_offline, is_tape_read, len_of, need, places_after, reel_of, touched_by, version_read, wants_bytes, writes}
use Rattle.g_laws_model.specs.Refusals.{Goes, first_of, when}

-- The stamp is among these.
abbrev pub is_among : ℕ → List ℕ → Bool
is_among stamp stamps = list_any (λ x. stamp == x) stamps

-- The versions that may be taken offline, the oldest first.
abbrev pub candidates : Holding → List ℕ
candidates k = map (λ e. e.0) (filter (λ e. is_candidate e.1) (entries k.places))

-- The shortest prefix that is enough, or the whole list.
abbrev pub shortest : (List ℕ → Bool) → List ℕ → List ℕ
shortest enough [] = []
shortest enough (x ∷ xs) = if enough [] then [] else x ∷ shortest (λ front. enough (x ∷ front)) xs

-- The room on the disc if these versions are offline.
abbrev pub room_with : State → Holding → List ℕ → ℕ
room_with s k stamps = room s k + sum_by (λ e. only_if (is_among e.1.stamp stamps) (blocks_of e.1)) (entries k.tree.files)

-- What the store holds after these versions were taken offline.
abbrev pub offline : List ℕ → Holding → Holding
offline stamps k = record k { places = from_sorted (map (λ e. (e.0, if is_among e.0 stamps then record e.1 { online = false } else e.1)) (entries k.places)) }

-- Taking versions offline has its own commit, before that of the call.
abbrev pub taken_first : State → Holding → List ℕ → List State
taken_first s k [] = []
taken_first s k (stamp ∷ stamps) = commits s (offline (stamp ∷ stamps) k) ∷ []

module _ (s : State) (k : Holding) (who : List ℕ) (call : StoreCall) where
  -- The versions that are taken offline for the call: only as many as are needed, the oldest first, or all candidates.
  abbrev pub taken : List ℕ
  taken = shortest (λ stamps. nat_le (need s k who call) (room_with s k stamps)) (candidates k)

  -- The refusals, in their order.
  abbrev pub refusal : List ℕ → Outcome → Option StoreFault
  refusal stamps o = first_of (
      fault_of k.tree who call
      ∷ when (is_offline s k who call && not (is_mounted s (reel_of s k who call))) (WaitTape (reel_of s k who call))
      ∷ when (is_tape_read o && is_offline s k who call) TapeReadFault
      ∷ when (nat_lt (room_with s k stamps) (need s k who call)) (DiscFull (need s k who call) (room_with s k stamps))
      ∷ when (is_disc_read o && wants_bytes call && not (is_offline s k who call) && nat_lt 0 (len_of s k who call (version_read k.tree who call))) DiscReadFault
      ∷ [])

  -- What the store holds after the call.
  abbrev pub held : Holding → Holding
  held unjammed = record unjammed {
    tree = plain_tree k.tree who call;
    places = places_after k.tree who call unjammed.places;
    kept = without_all (changes k.tree who call) k.kept;
  }

  -- The call writes to the disc.
  abbrev pub writes_now : Bool
  writes_now = writes call || brings_now s k who call

  -- The state after the call, with these versions taken offline.
  abbrev pub done : List ℕ → State
  done stamps = if writes_now then record (commits s (held (offline stamps k))) { open_dump = option_map (touched_by s k who call) s.open_dump } else s

  -- The effect of the call, if these versions are taken offline for it.
  abbrev pub GoesWith : List ℕ → Outcome → Result StoreReply StoreFault → State → Type 0
  GoesWith stamps o answer new = Goes (refusal stamps o) (is_cut o && writes_now) (reply_to k.tree who call) s (taken_first s k stamps) (done stamps) answer new

  -- The effect of the call.
  abbrev pub DoesCall : Outcome → Result StoreReply StoreFault → State → Type 0
  DoesCall o answer new = GoesWith taken o answer new

-- The step of the call, and this definition of it, are equivalent.
abbrev pub CallsAreSimple : Type 0
CallsAreSimple = (s : State) (k : Holding) (who : List ℕ) (call : StoreCall) (o : Outcome) (answer : Result StoreReply StoreFault) (new : State)
    → CallStep s k who call o answer new ↔ DoesCall s k who call o answer new

-- For every stamp up to which versions are taken offline, exactly these versions are taken; and there is such a stamp.
pub record UnjamsTake : Type 0 where
  pub takes : (s : State) (k : Holding) (who : List ℕ) (call : StoreCall) (until : ℕ) → IsUnjam s k who call until
      → ((stamp : ℕ) → is_taken k until stamp ≡ is_among stamp (taken s k who call)) × (taken_offline until k ≡ offline (taken s k who call) k)
  pub some : (s : State) (k : Holding) (who : List ℕ) (call : StoreCall) → (until : ℕ) × IsUnjam s k who call until
