-- SAFE DEVICES STAY SAFE when their files are closed.
-- serves: run_on, run_on_pair, session_on, session_on_pair
use Rattle.std.proofs.Common.{◌≡◌, ℕ, List, refl, subst, sym}
use Rattle.g_closing.specs.Files.{ClosesDisc, ClosesRack}
use Rattle.g_dirs.proofs.Surviving.{safe_stays}
use Rattle.g_disc.specs.Disc.{DiscState, StayDurable}
use Rattle.g_duplex.specs.Pair.{ArePaired, Pair, shown}
use Rattle.g_duplex.proofs.RackRiskLemmas.{pair_no_more, with_risks}
use Rattle.g_operator.proofs.SafeLemmas.{safe_rack}
use Rattle.g_store_meaning.specs.Safety.{AreSafe}
use Rattle.g_tape.specs.Rack.{Rack}
use Rattle.g_tape.specs.Reads.{LeavesNoMore}
use Rattle.g_tape.specs.Risk.{Risk}

-- A DISC of which a power loss leaves no more than before
module _ (d : DiscState) (v w : List ℕ) where
  abbrev disc : DiscState
  disc = record d { volatile = v; dropped = w }

  closed_disc : StayDurable d disc → (rack : Rack) → AreSafe d rack → AreSafe disc rack
  closed_disc stay rack is = record {
    now = record {
      told = is.now.told;
      belong = is.now.belong;
      disc_safe = safe_stays d disc refl stay is.now.disc_safe;
      dumps = is.now.dumps;
      blank = is.now.blank;
    };
    left = λ blocks after left.
        is.left blocks after (record {
          on_disc = record { size = left.on_disc.size; whole = left.on_disc.whole; durable = λ k kept. left.on_disc.durable k (stay k kept) };
          reels = left.reels;
        });
  }

-- A RACK of which a power loss leaves no more than before
module _ (r : Rack) (risks : List Risk) where
  abbrev rack : Rack
  rack = record r { risks = risks }

  closed_rack : LeavesNoMore r rack → (d : DiscState) → AreSafe d r → AreSafe d rack
  closed_rack no_more d is = safe_rack r rack no_more d refl (λ n. refl) (λ all. all) (λ was. record { told = was.told; belong = was.belong }) is

pub closed_safe : (d e : DiscState) (r s : Rack) → ClosesDisc d e → ClosesRack r s → AreSafe d r → AreSafe e s
closed_safe d e r s disc_closes rack_closes is =
    let stay = subst (StayDurable d) disc_closes.same disc_closes.durable in
    let no_more = subst (LeavesNoMore r) rack_closes.same rack_closes.no_more in
    subst (λ (x : DiscState). AreSafe x s) (sym disc_closes.same)
    (closed_disc d e.volatile e.dropped stay s (subst (λ (x : Rack). AreSafe d x) (sym rack_closes.same) (closed_rack r s.risks no_more d is)))

-- TWO RACKS of which a power loss leaves no more than before: it leaves no more of what the pair shows
module _ (p : Pair) (paired : ArePaired p.standings p.first.reels p.second.reels) where
  closes_pair : (first second : Rack) → ClosesRack p.first first → ClosesRack p.second second
      → ClosesRack (shown p) (shown (record p { first = first; second = second }))
  closes_pair first second one two =
      let ps = first.risks in
      let qs = second.risks in
      let q = with_risks ps qs p in
      let more = pair_no_more p ps qs paired (subst (LeavesNoMore p.first) one.same one.no_more) (subst (LeavesNoMore p.second) two.same two.no_more) in
      let closes : ClosesRack (shown p) (shown q) = record { same = refl; no_more = more } in
      subst (λ (x : Rack). ClosesRack (shown p) (shown (record p { first = x; second = second }))) (sym one.same)
      (subst (λ (x : Rack). ClosesRack (shown p) (shown (record p { first = record p.first { risks = ps }; second = x }))) (sym two.same) closes)

pub closed_pair_safe : (d e : DiscState) (p : Pair) → ArePaired p.standings p.first.reels p.second.reels → (first first' second second' : Rack)
    → p.first ≡ first → p.second ≡ second → ClosesDisc d e → ClosesRack first first' → ClosesRack second second' → AreSafe d (shown p)
    → AreSafe e (shown (record p { first = first'; second = second' }))
closed_pair_safe d e p paired first first' second second' is_first is_second disc_closes one two safe =
    closed_safe d e (shown p) (shown (record p { first = first'; second = second' })) disc_closes
    (closes_pair p paired first' second' (subst (λ (x : Rack). ClosesRack x first') (sym is_first) one) (subst (λ (x : Rack). ClosesRack x second') (sym is_second) two)) safe
