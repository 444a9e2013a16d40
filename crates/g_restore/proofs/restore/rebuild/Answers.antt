use Rattle.std.proofs.Common.{ℕ, Err, inl, refl}
use Rattle.g_plain.specs.declared.faults.StoreFault.TheVariants.{DiscReadFault, NoDump, Stopped, TapeReadFault}
use Rattle.g_disc_contents.specs.Facts.{OnlineFacts}
use Rattle.g_restore.specs.declared.directory.Dumped.{Dumped}
use Rattle.g_restore.proofs.AnswerLemmas.{belongs_of, found_of, kept_of, lost_over, not_of_reels, ok_of, one_of, one_over, other_over, refused_of, stopped_of, unmounted_of, unmounted_over, unread_of}
use Rattle.g_restore.proofs.BelongLemmas.{belongs_same}
use Rattle.g_restore.proofs.DurableLemmas.{made_by, none_by}
use Rattle.g_restore.proofs.NeverLemmas.{nothing_lost}
use Rattle.g_restore.proofs.RebuildLemmas.{idle, made_named, of_disc}
use Rattle.g_restore.proofs.restore.rebuild.Goals as goal

pub returns-in-Ok-clause-ok : goal.returns-in-Ok-clause-ok
returns-in-Ok-clause-ok g c = ok_of g.D.Disc.state (g.D.Disc.state c.args.disc) _ _ c.in-Ok.ensures.reads _ c.in-Ok.ensures.ok _ c.make.ensures.ok c.make.ensures.number

pub returns-in-Ok-clause-stopped : goal.returns-in-Ok-clause-stopped
returns-in-Ok-clause-stopped g c = stopped_of g.D.Disc.state (g.D.Disc.state c.args.disc) _ _ c.in-Ok.ensures.reads _ c.in-Ok.ensures.ok _ c.make.ensures.stopped c.make.ensures.survives

pub returns-in-Ok-clause-unread : goal.returns-in-Ok-clause-unread
returns-in-Ok-clause-unread g c = unread_of g.D.Disc.state (g.D.Disc.state c.args.disc) _ _ c.in-Ok.ensures.reads _ c.in-Ok.ensures.ok _

pub returns-in-Ok-clause-unmounted : goal.returns-in-Ok-clause-unmounted
returns-in-Ok-clause-unmounted g c = unmounted_of _ _ _ c.make.ensures.only c.in-Ok.ensures.unmounted

pub returns-in-Ok-clause-none : goal.returns-in-Ok-clause-none
returns-in-Ok-clause-none g c = λ is. absurd (of_disc _ NoDump c.make.ensures.only is)

pub returns-in-Ok-clause-lost : goal.returns-in-Ok-clause-lost
returns-in-Ok-clause-lost g c = made_named _ _ Dumped _ c.in-Ok.dumped _ c.make.ensures.only c.in-Ok.ensures.lost

pub returns-in-Ok-clause-reads : goal.returns-in-Ok-clause-reads
returns-in-Ok-clause-reads g c = c.in-Ok.ensures.reads

pub returns-in-Ok-clause-kept : goal.returns-in-Ok-clause-kept
returns-in-Ok-clause-kept g c = λ isnt. kept_of _ _ _ c.in-Ok.ensures.kept

pub returns-in-Ok-clause-rose : goal.returns-in-Ok-clause-rose
returns-in-Ok-clause-rose g c = λ is. absurd (of_disc _ TapeReadFault c.make.ensures.only is)

pub returns-in-Ok-clause-same : goal.returns-in-Ok-clause-same
returns-in-Ok-clause-same g c = c.make.ensures.same

pub returns-in-Ok-clause-tied : goal.returns-in-Ok-clause-tied
returns-in-Ok-clause-tied g c = c.make.ensures.tied

pub returns-in-Ok-clause-causes : goal.returns-in-Ok-clause-causes
returns-in-Ok-clause-causes g c = c.make.ensures.causes

pub returns-in-Ok-clause-only : goal.returns-in-Ok-clause-only
returns-in-Ok-clause-only g c = one_of _ c.make.ensures.only

pub returns-in-Ok-clause-belongs : goal.returns-in-Ok-clause-belongs
returns-in-Ok-clause-belongs g c = belongs_of g.D.Disc.state (g.D.Disc.state c.args.disc) _ _ c.in-Ok.ensures.reads _ c.in-Ok.ensures.ok _ c.make.ensures.ok c.make.ensures.tied

pub returns-in-Ok-clause-belongs_refused : goal.returns-in-Ok-clause-belongs_refused
returns-in-Ok-clause-belongs_refused g c =
    refused_of g.D.Disc.state (g.D.Disc.state c.args.disc) _ _ c.in-Ok.ensures.reads _ c.in-Ok.ensures.ok _ c.make.ensures.only c.make.ensures.stopped c.make.ensures.same

pub returns-in-Ok-clause-found : goal.returns-in-Ok-clause-found
returns-in-Ok-clause-found g c = λ told belong. found_of g.D.Disc.state (g.D.Disc.state c.args.disc) _ _ c.in-Ok.ensures.reads _ c.in-Ok.ensures.ok _ c.make.ensures.only

pub returns-in-Err-clause-stopped : goal.returns-in-Err-clause-stopped
returns-in-Err-clause-stopped g c = λ is. not_of_reels _ Stopped c.in-Err.ensures.only (λ no. no) is

pub returns-in-Err-clause-unread : goal.returns-in-Err-clause-unread
returns-in-Err-clause-unread g c = λ is. not_of_reels _ DiscReadFault c.in-Err.ensures.only (λ no. no) is

pub returns-in-Err-clause-unmounted : goal.returns-in-Err-clause-unmounted
returns-in-Err-clause-unmounted g c = unmounted_over _ _ c.in-Err.ensures.unmounted

pub returns-in-Err-clause-none : goal.returns-in-Err-clause-none
returns-in-Err-clause-none g c = one_over _ NoDump c.in-Err.ensures.none

pub returns-in-Err-clause-lost : goal.returns-in-Err-clause-lost
returns-in-Err-clause-lost g c = lost_over Dumped (OnlineFacts × ℕ) _ _ c.in-Err.ensures.lost

pub returns-in-Err-clause-reads : goal.returns-in-Err-clause-reads
returns-in-Err-clause-reads g c = c.in-Err.ensures.reads

pub returns-in-Err-clause-kept : goal.returns-in-Err-clause-kept
returns-in-Err-clause-kept g c = other_over _ TapeReadFault c.in-Err.ensures.kept

pub returns-in-Err-clause-rose : goal.returns-in-Err-clause-rose
returns-in-Err-clause-rose g c = one_over _ TapeReadFault c.in-Err.ensures.rose

pub returns-in-Err-clause-same : goal.returns-in-Err-clause-same
returns-in-Err-clause-same g c = λ isnt. (refl, refl)

pub returns-in-Err-clause-causes : goal.returns-in-Err-clause-causes
returns-in-Err-clause-causes g c = idle _ _ c.in-Err.ensures.only

pub returns-in-Ok-clause-safe : goal.returns-in-Ok-clause-safe
returns-in-Ok-clause-safe g c = c.make.ensures.safe

pub returns-in-Ok-clause-disc_durable : goal.returns-in-Ok-clause-disc_durable
returns-in-Ok-clause-disc_durable g c = c.make.ensures.disc_durable

pub returns-in-Err-clause-disc_durable : goal.returns-in-Err-clause-disc_durable
returns-in-Err-clause-disc_durable g c = λ isnt k is. is

pub returns-in-Err-clause-safe : goal.returns-in-Err-clause-safe
returns-in-Err-clause-safe g c = λ is_safe. is_safe

pub returns-in-Err-clause-only : goal.returns-in-Err-clause-only
returns-in-Err-clause-only g c = inl c.in-Err.ensures.only

pub returns-in-Err-clause-belongs_refused : goal.returns-in-Err-clause-belongs_refused
returns-in-Err-clause-belongs_refused g c = belongs_same _ _ _ _ c.in-Err.ensures.reads refl

pub returns-in-Err-clause-found : goal.returns-in-Err-clause-found
returns-in-Err-clause-found g c = λ told belong. nothing_lost {A = OnlineFacts × ℕ} _ _ (Err c.in-Err.fault) (lost_over Dumped (OnlineFacts × ℕ) _ _ c.in-Err.ensures.lost) told belong

pub returns-in-Ok-clause-durable : goal.returns-in-Ok-clause-durable
returns-in-Ok-clause-durable g c = made_by (g.T.Tapes.rack c.args.tapes.now) (g.T.Tapes.rack c.dumped_directory.new.tapes) _ c.in-Ok.ensures.durable

pub returns-in-Err-clause-durable : goal.returns-in-Err-clause-durable
returns-in-Err-clause-durable g c = none_by (g.T.Tapes.rack c.args.tapes.now) (g.T.Tapes.rack c.dumped_directory.new.tapes) (OnlineFacts × ℕ) c.in-Err.fault c.in-Err.ensures.only
