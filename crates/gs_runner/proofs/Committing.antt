-- What a commit of the kernel is, under the lock.
use Rattle.std.proofs.Common.{◌≡◌, ℕ, Bool, true, false, Option, None, Some, List, [], ◌∷◌, length, refl, ap, sym, subst, ◌∙◌}
use Rattle.gs_layout.specs.declared.message.Message.{Message}
use Rattle.gs_slots.specs.Reading.{told_by}
use Rattle.gs_journal.specs.History.{History, torn}
use Rattle.gs_link.specs.declared.poster.RtrbPoster.{RtrbPoster}
use Rattle.gs_link.specs.Between.{Posted, SameEnd}
use Rattle.gs_kernel.specs.declared.settings.Settings.{Settings}
use Rattle.gs_kernel.specs.declared.landing.Landing.{Landing}
use Rattle.gs_kernel.specs.declared.effect.Effect.TheVariants.{Post}
use Rattle.gs_kernel.specs.Commit.{commit_refusal}
use Rattle.gs_kernel.specs.Kernel.{KernelOf, preemption}
use Rattle.gs_kernel.specs.Group.{CommitsRegion, GiveWay, GivesWay, Group, IfFits, PutsIf, group_in, is_group_placed}
use Rattle.gs_kernel.specs.Lands.{Adds, LandingsOf, LandsBytes}
use Rattle.gs_kernel.specs.Legal.{Frame, Room}
use Rattle.gs_kernel.proofs.Laws.{Entails, all_map_by, bytes_map, tells_map}
use Rattle.gs_replies.specs.declared.reply.Reply.{Reply}
use Rattle.gs_replies.specs.declared.reply.Reply.TheVariants as replies
use Rattle.gs_runner.specs.declared.call.Called.TheVariants.{Committed}
use Rattle.gs_runner.specs.Calls.{Commits, ThreadRoom, given_by, is_refused, landed_slots}
use Rattle.gs_runner.specs.Told.{IsTold, parcels_of}
use Rattle.gs_runner.proofs.Counting.{commit_count}
use Rattle.gs_runner.proofs.Rooms.{EndRoom, thread_room}

-- ---- one condition of the ring in place of another

way_map : (a b : Room) (h : History) (o : Option Message) (fit : Bool) (h' : History) → Entails a b → GivesWay a h o fit h' → GivesWay b h o fit h'
way_map a b h None fit h' f t = t
way_map a b h (Some m) fit h' f t = tells_map a b h (Post m) fit h' f t

ways_map : (a b : Room) (s : Settings) (g : Group) (h : History) (fit : Bool) (h' : History) → Entails a b → GiveWay a s g h fit h' → GiveWay b s g h fit h'
ways_map a b s [] h fit h' f t = t
ways_map a b s (x ∷ g) h fit h' f t = (t.0, t.1, way_map a b h (preemption s h x.0) t.0 t.1 f t.2, by_first t.0 t.3 (λ u. ways_map a b s g t.1 fit h' f u))
  where
    by_first : (first : Bool) → IfFits first (GiveWay a s g t.1 fit h') ((fit ≡ false) × (h' ≡ t.1)) → (GiveWay a s g t.1 fit h' → GiveWay b s g t.1 fit h') → IfFits first (GiveWay b s g t.1 fit h') ((fit ≡ false) × (h' ≡ t.1))
    by_first true u more = more u
    by_first false u more = u

puts_map : (placed : Bool) (a b : Room) (s : Settings) (h : History) (g : Group) (fit : Bool) (h' : History) → Entails a b → PutsIf placed a s h g fit h' → PutsIf placed b s h g fit h'
puts_map true a b s h g fit h' f t = (t.0, ways_map a b s g h fit t.0 f t.1, t.2)
puts_map false a b s h g fit h' f t = t

commits_map : (a b : Room) (s : Settings) (mask : ℕ) (region : List (List ℕ)) (h : History) (r : LandingsOf (List ℕ)) → Entails a b → CommitsRegion a s mask region h r → CommitsRegion b s mask region h r
commits_map a b s mask region h r f t =
    let g : Group = group_in mask 0 (told_by 0 region) in
    record {
      group = t.group;
      first = record { fit = t.first.fit; puts = puts_map (is_group_placed s h g) a b s h g t.first.fit t.group.history f t.first.puts; answers = t.first.answers; slots = t.first.slots };
      rest = t.rest;
      others = all_map_by (LandsBytes a s) (LandsBytes b s) mask 0 t.group.slots t.group.history t.rest (bytes_map a b s f) t.others;
      whole = t.whole;
    }

-- ---- the call

-- the answers of a commit are as many as the slots that land
pub answers_count : (room : Room) (s : Settings) (mask : ℕ) (region left : List (List ℕ)) (h : History) (ls : List Landing) (h' : History) → Adds (CommitsRegion room s mask region h) [] ls left h' → length ls ≡ length (landed_slots mask 0 region)
answers_count room s mask region left h ls h' t = ap length t.answers ∙ commit_count room s mask region h t.made t.lands

-- what the kernel committed, over the ring between threads
pub has_committed : (a b : KernelOf RtrbPoster) (mask : ℕ) (region left : List (List ℕ)) (ls : List Landing) (down : Bool) (r : Reply) → commit_refusal a.settings a.history mask ≡ None
    → Adds (CommitsRegion (EndRoom a.poster) a.settings mask region a.history) [] ls left b.history → down ≡ torn b.history → r ≡ replies.Landed ls down → Commits (ThreadRoom (parcels_of a)) a.settings a.history mask region r left b.history
has_committed a b mask region left ls down r free t down_is reply =
    let lands : CommitsRegion (ThreadRoom (parcels_of a)) a.settings mask region a.history t.made = commits_map (EndRoom a.poster) (ThreadRoom (parcels_of a)) a.settings mask region a.history t.made (thread_room a.poster) t.lands in
    let adds : Adds (CommitsRegion (ThreadRoom (parcels_of a)) a.settings mask region a.history) [] ls left b.history = record { made = t.made; lands = lands; answers = t.answers; slots = t.slots; history = t.history } in
    let done : Commits (ThreadRoom (parcels_of a)) a.settings a.history mask region (replies.Landed ls down) left b.history = (free, down_is, adds) in
    subst (λ (x : Reply). Commits (ThreadRoom (parcels_of a)) a.settings a.history mask region x left b.history) (sym reply) done

-- it is a legal call
pub told_committed : (a b : KernelOf RtrbPoster) (mask : ℕ) (region left : List (List ℕ)) (ls : List Landing) (down : Bool) (r : Reply) → length region ≡ a.settings.cpus → Commits (ThreadRoom (parcels_of a)) a.settings a.history mask region r left b.history
    → Frame SameEnd (λ (q : RtrbPoster). 0) Posted a b → r ≡ replies.Landed ls down → IsTold a (Committed (landed_slots mask 0 region)) r b
told_committed a b mask region left ls down r cpus t frame reply = record {
  legal = record { mask = mask; region = region; left = left; cpus = cpus; slots = refl; commits = t };
  refused = λ e. absurd (not_refused (ap is_refused (sym reply) ∙ e));
  ring = frame.ring;
  sent = frame.told;
  settings = frame.settings;
  pages = frame.pages ∙ ap (λ (x : Reply). given_by x a.paged) (sym reply);
}
  where
    not_refused : false ≡ true → ⊥
    not_refused e = absurd cc
