-- A session, line by line, and its answers.
use Rattle.std.proofs.Common.{◌≡◌, refl, ap, sym, subst, ◌∙◌, ℕ, ◌+◌, ◌≤◌, ◌<◌, nat_lt, Bool, true, false, cond, List, [], ◌∷◌, ◌++◌, append_assoc, append-nil, length, length-take, take, arith, Option, None, Some, Result, Err}
use Rattle.std.specs.Io.KnownBytes.{Appends, Consumes, IsAtEnd, prepend_known}
use Rattle.std.specs.Prelude.{IfSome}
use Rattle.std.proofs.KnownBytes.{Appends-nil, Appends-trans, Consumes-trans}
use Rattle.std.proofs.Math.Seq.{take-append-add}
use Rattle.std.specs.Io.KnownBytes.{Keeps}
use Rattle.std.proofs.lemmas.List.{take_all}
use Rattle.std.proofs.lemmas.Grind.{common_steps}
use Rattle.gs_script.specs.declared.fault.Reason.{Reason}
use Rattle.gs_script.specs.declared.fault.Reason.TheVariants.{TooLong}
use Rattle.gs_script.specs.declared.script.TheConstants.{MOST_BYTES}
use Rattle.gs_script.specs.Naming.{Naming}
use Rattle.gs_script.specs.Header.{header_of}
use Rattle.gs_script.specs.Rows.{event_of}
use Rattle.gs_script.specs.Script.{says}
use Rattle.gs_script.specs.Words.{lines_of}
use Rattle.gs_session.specs.declared.heard.Heard.{Heard}
use Rattle.gs_core.specs.Machine.{Plan, StateOf}
use Rattle.gs_session.specs.Session.{Session, Hears, HearsAt, HearsEvent, HearsHeader, read_within, unheard}
use Rattle.gs_serve.specs.declared.source.TheConstants.{MOST_KEPT}
use Rattle.gs_serve.specs.declared.source.Came.TheVariants.{Line, Last, Nothing}
use Rattle.gs_serve.specs.declared.fault.ServeFault.{ServeFault}
use Rattle.gs_serve.specs.declared.fault.ServeFault.TheVariants as faults
use Rattle.gs_serve.specs.Source.{Comes, IsLine, kept_of}
use Rattle.gs_trace.specs.Noted.{Noted}
use Rattle.gs_serve.specs.Served.{IsOfWriting}
use Rattle.gs_serve.specs.Answered.{BeginsServingBy, IsServedBy, ShowsAll, ShowsLine, StartsLine, Way, WritesLine, ended_by, event_in, event_said}
use Rattle.gs_serve.proofs.Leading.{Leads, all_consumed, first_consumed, last_line, line_leads, whole_lines}

-- a line of which no more is kept than tells that it is too long says what the whole says
cut_read : {A : Type 0} (n m : ℕ) (too_long : A) (f : List ℕ → A) (line : List ℕ) → m ≡ n + 1 → cond (nat_lt n (length (take m line))) too_long (f (take m line)) ≡ cond (nat_lt n (length line)) too_long (f line)
cut_read {A} n m too_long f line more = by_test (nat_lt n (length line)) refl
  where
    by_test : (b : Bool) → nat_lt n (length line) ≡ b → cond (nat_lt n (length (take m line))) too_long (f (take m line)) ≡ cond (nat_lt n (length line)) too_long (f line)
    by_test true e =
        let long : n < length line = grind (arith, common_steps) in
        let cut : nat_lt n (length (take m line)) ≡ true = grind (arith, common_steps, length-take m line) in
        ap (λ b. cond b too_long (f (take m line))) cut ∙ sym (ap (λ b. cond b too_long (f line)) e)
    by_test false e =
        let few : length line ≤ m = grind (arith, common_steps) in
        let same : take m line ≡ line = take_all m line few in
        ap (λ xs. cond (nat_lt n (length xs)) too_long (f xs)) same

cut_within : {A : Type 0} (read : List (List ℕ) → Result A Reason) (line : List ℕ) → read_within read (kept_of line) ≡ read_within read line
cut_within read line = cut_read MOST_BYTES MOST_KEPT (Err TooLong) (says read) line refl

hears_cut_at : {A : Type 0} (naming : Naming A) (plans : A → Plan) (n : ℕ) (line : List ℕ) (old : Option (StateOf A)) (h : Heard) (new : Option (StateOf A)) → HearsAt naming plans n (kept_of line) old h new → HearsAt naming plans n line old h new
hears_cut_at naming plans n line None h new t = subst (λ r. HearsHeader n r h new) (cut_within (header_of naming) line) t
hears_cut_at naming plans n line (Some m) h new t = subst (λ r. HearsEvent plans n m r h new) (cut_within (event_of naming) line) t

hears_cut : {A : Type 0} (naming : Naming A) (plans : A → Plan) (old : Session A) (line kept : List ℕ) (h : Heard) (new : Session A) → kept ≡ kept_of line → Hears naming plans old kept h new → Hears naming plans old line h new
hears_cut naming plans old line kept h new e t =
    record { counted = t.counted; does = hears_cut_at naming plans new.count line old.opened h new.opened (subst (λ (xs : List ℕ). HearsAt naming plans new.count xs old.opened h new.opened) e t.does) }

shows_cut : {A : Type 0} (w : Way A) (n : Noted) (old : Session A) (line kept : List ℕ) (h : Heard) (now : Noted) (new : Session A) (out : List ℕ) → kept ≡ kept_of line → ShowsLine w n old kept h now new out → ShowsLine w n old line h now new out
shows_cut w n old line kept h now new out e t =
    record {
      hears = hears_cut w.naming w.plans old line kept h new e t.hears;
      shown = t.shown ∙ ap (λ (xs : List ℕ). w.shown n old (event_said w.naming xs) h new) e ∙ ap (λ r. w.shown n old (event_in r) h new) (cut_within (event_of w.naming) line);
      noted = t.noted;
    }

-- one more line is heard
shows_more : {A : Type 0} (w : Way A) (n m : Noted) (a b : Session A) (lines : List (List ℕ)) (hs : List Heard) (out : List ℕ) (line : List ℕ) (h : Heard) (now : Noted) (c : Session A) (text : List ℕ) → ShowsAll w n a lines hs m b out → ShowsLine w m b line h now c text → ShowsAll w n a (lines ++ line ∷ []) (hs ++ h ∷ []) now c (out ++ ended_by text)
shows_more w n m a b [] [] out line h now c text (noted, e, none) one =
    let first : ShowsLine w n a line h now c text =
    subst (λ (s : Session _). ShowsLine w n s line h now c text) e (subst (λ (k : Noted). ShowsLine w k b line h now c text) noted one) in
    (now, c, text, [], first, ap (λ xs. xs ++ ended_by text) none ∙ sym (append-nil (ended_by text)), (refl, refl, refl))
shows_more w n m a b [] (g ∷ hs) out line h now c text t one = absurd t
shows_more w n m a b (l ∷ lines) [] out line h now c text t one = absurd t
shows_more w n m a b (l ∷ lines) (g ∷ hs) out line h now c text (between, mid, said, rest, first, is, behind) one =
    (between, mid, said, rest ++ ended_by text, first, ap (λ xs. xs ++ ended_by text) is ∙ append_assoc (ended_by said) rest (ended_by text), shows_more w between m mid b lines hs rest line h now c text behind one)

-- lines were read, heard and answered
pub record ServesSoFar {A : Type 0} (w : Way A) (n : Noted) (had left before now : Option (List ℕ)) (noted : Noted) (session : Session A) : Type 0 where
  pub input : List ℕ
  pub lines : List (List ℕ)
  pub heard : List Heard
  pub answers : List ℕ
  pub consumed : Consumes had left input
  pub leads : Leads input lines
  pub shows : ShowsAll w n unheard lines heard noted session answers
  pub written : Appends before now answers

pub none_served : {A : Type 0} (w : Way A) (n : Noted) (known before : Option (List ℕ)) (s : List ℕ) (session : Session A) → s ≡ [] → session ≡ unheard → ServesSoFar w n known (prepend_known s known) before before n session
none_served w n known before s session e new =
    record { input = []; lines = []; heard = []; answers = []; consumed = first_consumed known s e; leads = λ more. refl; shows = (refl, new, refl); written = Appends-nil before }

pub line_served : {A : Type 0} (w : Way A) (n m : Noted) (had mid left before now next : Option (List ℕ)) (kept : List ℕ) (old : Session A) (noted : Noted) (new : Session A) → ServesSoFar w n had mid before now m old → Comes Line mid left kept → WritesLine w m old kept noted new now next → ServesSoFar w n had left before next noted new
line_served w n m had mid left before now next kept old noted new t (line, is, cut, taken) (text, (h, one), wrote) =
    record {
      input = t.input ++ (line ++ 10 ∷ []);
      lines = t.lines ++ line ∷ [];
      heard = t.heard ++ h ∷ [];
      answers = t.answers ++ ended_by text;
      consumed = Consumes-trans had mid left t.input (line ++ 10 ∷ []) t.consumed taken;
      leads = line_leads t.input line t.lines t.leads is;
      shows = shows_more w n m unheard old t.lines t.heard t.answers line h noted new text t.shows (shows_cut w m old line kept h noted new text cut one);
      written = Appends-trans before now next t.answers (ended_by text) t.written wrote;
    }

pub all_served : {A : Type 0} (w : Way A) (n m : Noted) (had mid known before now : Option (List ℕ)) (s kept : List ℕ) (session : Session A) → ServesSoFar w n had mid before now m session → Comes Nothing mid (prepend_known s known) kept → IsServedBy w n had known before now
all_served w n m had mid known before now s kept session t (same, end) =
    let consumed : Consumes had (prepend_known s known) t.input = subst (Consumes had (prepend_known s known)) (append-nil t.input) (Consumes-trans had mid (prepend_known s known) t.input [] t.consumed same) in
    let all = all_consumed had known s t.input consumed end in
    record {
      input = t.input;
      heard = t.heard;
      noted = m;
      session = session;
      answers = t.answers;
      consumed = all.0;
      end = all.1;
      shows = subst (λ (ls : List (List ℕ)). ShowsAll w n unheard ls t.heard m session t.answers) (sym (whole_lines t.input t.lines t.leads)) t.shows;
      written = t.written;
    }

pub last_served : {A : Type 0} (w : Way A) (n m : Noted) (had mid known before now next : Option (List ℕ)) (s kept : List ℕ) (old : Session A) (noted : Noted) (new : Session A) → ServesSoFar w n had mid before now m old → Comes Last mid (prepend_known s known) kept → WritesLine w m old kept noted new now next → IsServedBy w n had known before next
last_served w n m had mid known before now next s kept old noted new t (line, is, some, cut, taken, end) (text, (h, one), wrote) =
    let all = all_consumed had known s (t.input ++ line) (Consumes-trans had mid (prepend_known s known) t.input line t.consumed taken) end in
    record {
      input = t.input ++ line;
      heard = t.heard ++ h ∷ [];
      noted = noted;
      session = new;
      answers = t.answers ++ ended_by text;
      consumed = all.0;
      end = all.1;
      shows =
          subst (λ (ls : List (List ℕ)). ShowsAll w n unheard ls (t.heard ++ h ∷ []) noted new (t.answers ++ ended_by text)) (sym (last_line t.input line t.lines t.leads is some))
          (shows_more w n m unheard old t.lines t.heard t.answers line h noted new text t.shows (shows_cut w m old line kept h noted new text cut one));
      written = Appends-trans before now next t.answers (ended_by text) t.written wrote;
    }

-- the lines that are not read
abbrev lines_behind : Option (List ℕ) → List (List ℕ)
lines_behind None = []
lines_behind (Some left) = lines_of left

first_lines : (had left : Option (List ℕ)) (input : List ℕ) (lines : List (List ℕ)) → Consumes had left input → Leads input lines → IfSome had (λ xs. lines_of xs ≡ lines ++ lines_behind left)
first_lines None left input lines h leads = tt
first_lines (Some xs) None input lines h leads = absurd h
first_lines (Some xs) (Some left) input lines h leads = ap lines_of h ∙ leads left

kept_written : (a b c : Option (List ℕ)) (bs : List ℕ) → Appends a b bs → Keeps b c → Appends a c (take (length bs) bs)
kept_written a b c bs h k = subst (Appends a c) (sym (take_all (length bs) bs (omega arith))) (by_kept a b c h k)
  where
    by_kept : (a b c : Option (List ℕ)) → Appends a b bs → Keeps b c → Appends a c bs
    by_kept None b c h k = tt
    by_kept (Some x) None c h k = absurd h
    by_kept (Some x) (Some y) None h k = absurd k
    by_kept (Some x) (Some y) (Some z) h k = k ∙ h

pub begun_so_far : {A : Type 0} (w : Way A) (n m : Noted) (had mid before now after : Option (List ℕ)) (session : Session A) → ServesSoFar w n had mid before now m session → Keeps now after → BeginsServingBy w n had before after
begun_so_far w n m had mid before now after session t kept =
    record {
      lines = t.lines;
      behind = lines_behind mid;
      heard = t.heard;
      noted = m;
      session = session;
      answers = t.answers;
      count = length t.answers;
      first = first_lines had mid t.input t.lines t.consumed t.leads;
      shows = t.shows;
      written = kept_written before now after t.answers t.written kept;
    }

part_written : (a b c : Option (List ℕ)) (so_far more : List ℕ) (n : ℕ) → Appends a b so_far → Appends b c (take n more) → Appends a c (take (length so_far + n) (so_far ++ more))
part_written a b c so_far more n first one = subst (Appends a c) (sym (take-append-add so_far more n)) (Appends-trans a b c so_far (take n more) first one)

pub line_begun : {A : Type 0} (w : Way A) (n m : Noted) (had mid left before now next : Option (List ℕ)) (kept : List ℕ) (old : Session A) (noted : Noted) (new : Session A) → ServesSoFar w n had mid before now m old → Comes Line mid left kept → StartsLine w m old kept noted new now next → BeginsServingBy w n had before next
line_begun w n m had mid left before now next kept old noted new t (line, is, cut, taken) (text, count, (h, one), wrote) =
    record {
      lines = t.lines ++ line ∷ [];
      behind = lines_behind left;
      heard = t.heard ++ h ∷ [];
      noted = noted;
      session = new;
      answers = t.answers ++ ended_by text;
      count = length t.answers + count;
      first = first_lines had left (t.input ++ (line ++ 10 ∷ [])) (t.lines ++ line ∷ []) (Consumes-trans had mid left t.input (line ++ 10 ∷ []) t.consumed taken) (line_leads t.input line t.lines t.leads is);
      shows = shows_more w n m unheard old t.lines t.heard t.answers line h noted new text t.shows (shows_cut w m old line kept h noted new text cut one);
      written = part_written before now next t.answers (ended_by text) count t.written wrote;
    }

last_first : (had left : Option (List ℕ)) (input line : List ℕ) (lines : List (List ℕ)) → Consumes had left (input ++ line) → IsAtEnd left → Leads input lines → IsLine line → IfSome had (λ xs. lines_of xs ≡ (lines ++ line ∷ []) ++ [])
last_first None left input line lines h end leads is = tt
last_first (Some xs) None input line lines h end leads is = absurd h
last_first (Some xs) (Some left) input line lines h end leads is =
    ap lines_of (h ∙ ap (λ l. (input ++ line) ++ l) end ∙ append-nil (input ++ line)) ∙ leads line ∙ ap (λ ls. lines ++ ls) is ∙ sym (append-nil (lines ++ line ∷ []))

pub last_begun : {A : Type 0} (w : Way A) (n m : Noted) (had mid left before now next : Option (List ℕ)) (kept : List ℕ) (old : Session A) (noted : Noted) (new : Session A) → ServesSoFar w n had mid before now m old → Comes Last mid left kept → StartsLine w m old kept noted new now next → BeginsServingBy w n had before next
last_begun w n m had mid left before now next kept old noted new t (line, is, some, cut, taken, end) (text, count, (h, one), wrote) =
    record {
      lines = t.lines ++ line ∷ [];
      behind = [];
      heard = t.heard ++ h ∷ [];
      noted = noted;
      session = new;
      answers = t.answers ++ ended_by text;
      count = length t.answers + count;
      first = last_first had left t.input line t.lines (Consumes-trans had mid left t.input line t.consumed taken) end t.leads is;
      shows = shows_more w n m unheard old t.lines t.heard t.answers line h noted new text t.shows (shows_cut w m old line kept h noted new text cut one);
      written = part_written before now next t.answers (ended_by text) count t.written wrote;
    }

-- an answer failed: nothing of it was written, or a beginning
pub fault_begun : {A : Type 0} (e : ServeFault) (w : Way A) (n m : Noted) (had mid before now after : Option (List ℕ)) (line : List ℕ) (old : Session A) (noted : Noted) (new : Session A) → ServesSoFar w n had mid before now m old → ((IsOfWriting e → ⊥) → Keeps now after) → (IsOfWriting e → StartsLine w m old line noted new now after)
    → (StartsLine w m old line noted new now after → BeginsServingBy w n had before after) → BeginsServingBy w n had before after
fault_begun faults.ReadFailed w n m had mid before now after line old noted new t unwritten begun serves = begun_so_far w n m had mid before now after old t (unwritten (λ x. x))
fault_begun faults.OutOfMemory w n m had mid before now after line old noted new t unwritten begun serves = begun_so_far w n m had mid before now after old t (unwritten (λ x. x))
fault_begun faults.WriteFailed w n m had mid before now after line old noted new t unwritten begun serves = serves (begun tt)
fault_begun faults.ReaderGone w n m had mid before now after line old noted new t unwritten begun serves = serves (begun tt)
