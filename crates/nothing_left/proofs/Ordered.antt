-- What holds between two calls of a session in document 01's order.
--
--   Holds f m p     == in the phase `quiet`: RF is off and the mark Covers the memory; in `live`: that, or a report
use mathlib.Core.Path.{◌≡◌, refl, subst, sym}
use mathlib.Core.Bool.{true}
use mathlib.Core.List.{List, []}
use Prim.Native.Nat.{ℕ}
use Rattle.std.specs.Prelude.{Result, Ok}
use Rattle.slices.proofs.Truths.{never}
use Rattle.protocol.specs.Mark.{Mark, whole}
use Rattle.protocol.specs.Tag.{ready_polls}
use Rattle.protocol.specs.Proc.{Proc, done, Res}
use Rattle.protocol.specs.Wait as w
use Rattle.protocol.specs.Rf as rf
use Rattle.protocol.specs.Setup as setup
use Rattle.protocol.specs.Write as wr
use Rattle.protocol.specs.Scrub as s
use Rattle.protocol.specs.Call.{Call, identify, prepare, wait_ready, read_user, write, rf_off, rf_on, rf_wrote, read_whole, scrub, begin, go_live, finish}
use Rattle.protocol.specs.Calls as calls
use Rattle.protocol.specs.Calls.{plain, plainly}
use Rattle.protocol.specs.Trace.{nothing}
use Rattle.protocol.specs.declared.answer.TagError.{TagError}
use Rattle.protocol.specs.declared.answer.Answer.{Answer}
use Rattle.protocol.specs.declared.answer.Answer.TheVariants.{Done, Wrote}
use Rattle.protocol.proofs.Runs as runs
use Rattle.part.specs.Part.{Part}
use Rattle.part.specs.Power.{visited}
use Rattle.nothing_left.specs.Trees.{tree_of}
use Rattle.nothing_left.specs.Runs.{Moments, replies, run_by, run, Clean}
use Rattle.nothing_left.specs.Sessions.{Phase, quiet, live, allowed, later, Session, first, phone, next}
use Rattle.nothing_left.proofs.Always.{Phone, visit_phone, Still, always, phones-run, always_done, always_bind, always_mono}
use Rattle.nothing_left.proofs.Worlds.{Off, off_world, Ready, ready_world}
use Rattle.nothing_left.proofs.Coverings.{covered_empty}
use Rattle.nothing_left.proofs.Lives.{powered-up}
use Rattle.nothing_left.proofs.Begins.{Cleaned, begins, clean_run, plainly_clean}
use Rattle.nothing_left.proofs.Tames.{Tame}
use Rattle.nothing_left.proofs.TameCalls.{tame_identify, tame_prepare, tame_wait, tame_read-user, tame_write, tame_off, tame_scrub}
use Rattle.nothing_left.proofs.Safe.{Safe, Kept, safe_identify, safe_prepare, safe_wait, safe_off, safe_read, safe_write, safe_scrub, safe_phone, kept_phone, kept_safe, live_keeps}
use Rattle.nothing_left.proofs.Closings.{Looked, whole-read, refused, finishes, looks, asks_safely, begins_safely, goes_on, goes_live}

abbrev pub Holds : Phase → Mark → Part → Type 0
Holds quiet m p = Safe Off m p
Holds live m p = Kept m p

pub holds_kept : (f : Phase) (m : Mark) (p : Part) → Holds f m p → Kept m p
holds_kept quiet m p h = kept_safe m p h
holds_kept live m p h = h

-- an answer, whatever it is
plainly_any : (q : Proc (Res Unit)) (Q : Mark → Part → Type 0) (m : Mark) (p : Part)
    → always Phone q (λ a n S x. Q n x) m [] p → always Phone (plainly q) (λ a n S x. Q n x) m [] p
plainly_any q Q m p h =
    always_bind Phone q (λ r. done (plain r)) (λ a n S x. Q n x) m [] p
    (always_mono Phone q (λ a n S x. Q n x) (λ a n S x. always Phone (done (plain a)) (λ b k T y. Q k y) n S x)
    (λ a n S x k. always_done Phone (plain a) (λ b k T y. Q k y) n S x k) m [] p h)

-- a call that keeps the phase
same_phase : (f : Phase) (q : Proc (Res Unit)) → Tame q → (m : Mark)
    → ((p : Part) → Safe Off m p → always Phone q (λ a n S x. Safe Off n x) m [] p)
    → ((p : Part) → Safe Ready m p → always Still q (λ a n S x. Safe Ready n x) m [] p)
    → (p : Part) → Holds f m p → always Phone (plainly q) (λ a n S x. Holds f n x) m [] p
same_phase quiet q t m off ready p h = plainly_any q (Safe Off) m p (off p h)
same_phase live q t m off ready p h = plainly_any q Kept m p (live_keeps q t m [] ready p h)

-- what `finish` leaves
cleaned_safe : {A : Type 0} (good a : A) (n : Mark) (x : Part) → Cleaned good a n x → Safe Off n x
cleaned_safe good a n x c =
    record { memory = x.memory; here = c.off; len = c.empty.size; covered = covered_empty n x.memory c.empty; idle = c.idle }

ended_quiet : (f : Phase) (a : Result Answer TagError) (n : Mark) (x : Part) → a ≡ Ok Done → Safe Off n x → Holds (later f finish a) n x
ended_quiet f a n x e s = subst (λ (b : Result Answer TagError). Holds (later f finish b) n x) (sym e) s

step-finish : (f : Phase) (m : Mark) (p : Part) → Kept m p → always Phone (tree_of finish m) (λ a n S x. Holds (later f finish a) n x) m [] p
unfolding calls.closing calls.finish
step-finish f m p k =
    always_mono Phone (tree_of finish m) (λ a n S x. Cleaned (Ok Done) a n x) (λ a n S x. Holds (later f finish a) n x)
    (λ a n S x c. ended_quiet f a n x c.answer (cleaned_safe (Ok Done) a n x c)) m [] p
    (plainly_clean (calls.finish m) m [] p (finishes m [] p k))

looked_holds : (f : Phase) (k : ℕ) (a : Res Unit) (n : Mark) (S : List ℕ) (x : Part) → Looked (Holds f) a n x
    → always Phone (done (plain a)) (λ b j T y. Holds (later f (read_whole k) b) j y) n S x
looked_holds f k a n S x (whole-read h) = always_done Phone (Ok Done) (λ b j T y. Holds (later f (read_whole k) b) j y) n S x h
looked_holds f k a n S x (refused h) = always_done Phone _ (λ b j T y. Holds (later f (read_whole k) b) j y) n S x h

step-read : (f : Phase) (k : ℕ) (m : Mark) (p : Part) → Holds f m p → always Phone (tree_of (read_whole k) m) (λ a n S x. Holds (later f (read_whole k) a) n x) m [] p
unfolding calls.read_whole
step-read f k m p h =
    always_bind Phone (calls.read_whole m k) (λ r. done (plain r)) (λ a n S x. Holds (later f (read_whole k) a) n x) m [] p
    (always_mono Phone (calls.read_whole m k) (λ a n S x. Looked (Holds f) a n x) _
    (λ a n S x l. looked_holds f k a n S x l) m [] p (looks (Holds f) m k [] p (holds_kept f m p h) h))

-- each call in its place
step : (f : Phase) (m : Mark) (p : Part) (c : Call) → allowed f c ≡ true → Holds f m p → always Phone (tree_of c m) (λ a n S x. Holds (later f c a) n x) m [] p
unfolding wr.write_user s.scrub calls.begin calls.go_live
step f m p identify e h = same_phase f setup.identify tame_identify m (safe_identify Phone Off off_world m []) (safe_identify Still Ready ready_world m []) p h
step f m p prepare e h = same_phase f setup.prepare tame_prepare m (safe_prepare Phone Off off_world m []) (safe_prepare Still Ready ready_world m []) p h
step f m p wait_ready e h = same_phase f (w.wait_ready ready_polls) (tame_wait ready_polls) m (safe_wait Phone Off off_world m []) (safe_wait Still Ready ready_world m []) p h
step f m p (read_user at n) e h = same_phase f (wr.read_user at n) (tame_read-user at n) m (safe_read Phone Off off_world m [] at n) (safe_read Still Ready ready_world m [] at n) p h
step f m p (write at bs) e h = same_phase f (wr.write_user m at bs) (tame_write m at bs) m (safe_write Phone Off off_world m [] at bs) (safe_write Still Ready ready_world m [] at bs) p h
step f m p rf_off e h = same_phase f rf.rf_off tame_off m (safe_off Phone Off off_world m []) (safe_off Still Ready ready_world m []) p h
step f m p rf_on e h = plainly_any rf.rf_on Kept m p (goes_on m [] p (holds_kept f m p h))
step f m p (read_whole n) e h = step-read f n m p h
step f m p scrub e h = same_phase f (s.scrub m) (tame_scrub m) m (safe_scrub Phone Off off_world m []) (safe_scrub Still Ready ready_world m []) p h
step f m p finish e h = step-finish f m p (holds_kept f m p h)
step quiet m p rf_wrote e h =
    always_bind Phone rf.rf_wrote (λ b. done (Ok (Wrote b))) (λ a n S x. Safe Off n x) m [] p
    (always_mono Phone rf.rf_wrote (λ a n S x. Safe Off n x) _ (λ a n S x k. always_done Phone (Ok (Wrote a)) (λ b j T y. Safe Off j y) n S x k) m [] p
    (asks_safely m [] p h))
step quiet m p begin e h = plainly_any (calls.begin m) (Safe Off) m p (begins_safely m [] p h)
step quiet m p go_live e h = plainly_any calls.go_live Kept m p (goes_live m [] p h)
step live m p rf_wrote e h = never e
step live m p begin e h = never e
step live m p go_live e h = never e

-- what always holds at the end of a call, as its host sees it
ran : (c : Call) (m : Mark) (p : Part) (Q : Result Answer TagError → Mark → Part → Type 0) → always Phone (tree_of c m) (λ a n S x. Q a n x) m [] p → (t : Moments)
    → Q (run c m p t).end.answer (run c m p t).end.mark (run c m p t).part
unfolding run_by
ran c m p Q h t =
    let k = phones-run (tree_of c m) (λ a n S x. Q a n x) m [] p t h in
    let e = runs.seen (tree_of c m) m nothing (replies (tree_of c m) p t) in
    rw e k

pub session_holds : (f : Phase) (m : Mark) (p : Part) → Session f m p → Holds f m p
unfolding calls.begin
session_holds f m p (first {p = q} u t) =
    let i = powered-up q u in
    ran begin whole q (λ a n x. Safe Off n x)
    (always_mono Phone (tree_of begin whole) (λ a n S x. Cleaned (Ok Done) a n x) (λ a n S x. Safe Off n x) (λ a n S x c. cleaned_safe (Ok Done) a n x c) whole [] q
    (plainly_clean (calls.begin whole) whole [] q
    (begins q.registers.cfg q.registers.gpo1 q.registers.session whole [] q
    (record { cfg = refl; gpo = refl; session = refl; len = i.0.len; named = i.0.named }) i.1))) t
session_holds f m p (phone {p = q} k v) = go f (session_holds f m q k)
  where
    go : (f : Phase) → Holds f m q → Holds f m (visited v q)
    go quiet h = safe_phone m q (visited v q) (visit_phone v q) h
    go live h = kept_phone m q (visited v q) (visit_phone v q) h
session_holds f m p (next {f = g} {m = n} {p = q} k c e t) =
    ran c n q (λ a j x. Holds (later g c a) j x) (step g n q c e (session_holds g n q k)) t

pub session_finish : (f : Phase) (m : Mark) (p : Part) → Session f m p → (t : Moments) → Clean (run finish m p t)
unfolding calls.closing calls.finish
session_finish f m p k t =
    clean_run finish m p (plainly_clean (calls.finish m) m [] p (finishes m [] p (holds_kept f m p (session_holds f m p k)))) t
