-- Plain answers, and what lines do whichever way they are answered.
use Rattle.std.proofs.Common.{◌≡◌, ap, subst, ◌∙◌, ℕ, List, [], ◌∷◌, ◌++◌, take, Option}
use Rattle.std.specs.Io.KnownBytes.{Appends}
use Rattle.gs_core.specs.Machine.{Plan}
use Rattle.gs_script.specs.Naming.{Naming}
use Rattle.gs_session.specs.declared.heard.Heard.{Heard}
use Rattle.gs_session.specs.Lines.{HearsAll}
use Rattle.gs_session.specs.Session.{Session, unheard}
use Rattle.gs_trace.specs.Noted.{Noted}
use Rattle.gs_serve.specs.Answered.{BeginsServingBy, IsServedBy, ShowsAll, Way, ended_by, plain}
use Rattle.gs_serve.specs.Served.{BeginsServing, IsServed, answer_of, answers_of, lines_in}

-- lines are heard alike
pub all_hear : {A : Type 0} (w : Way A) (n now : Noted) (old new : Session A) (lines : List (List ℕ)) (hs : List Heard) (out : List ℕ) → ShowsAll w n old lines hs now new out → HearsAll w.naming w.plans old lines hs new
all_hear w n now old new [] [] out t = t.1
all_hear w n now old new [] (h ∷ hs) out t = absurd t
all_hear w n now old new (line ∷ lines) [] out t = absurd t
all_hear w n now old new (line ∷ lines) (h ∷ hs) out (between, mid, text, rest, one, is, more) = (mid, one.hears, all_hear w between now mid new lines hs rest more)

plain_answers : {A : Type 0} (naming : Naming A) (plans : A → Plan) (n now : Noted) (old new : Session A) (lines : List (List ℕ)) (hs : List Heard) (out : List ℕ) → ShowsAll (plain naming plans) n old lines hs now new out → out ≡ answers_of hs
plain_answers naming plans n now old new [] [] out t = t.2
plain_answers naming plans n now old new [] (h ∷ hs) out t = absurd t
plain_answers naming plans n now old new (line ∷ lines) [] out t = absurd t
plain_answers naming plans n now old new (line ∷ lines) (h ∷ hs) out (between, mid, text, rest, one, is, more) =
    is ∙ ap (λ xs. ended_by xs ++ rest) one.shown ∙ ap (λ xs. answer_of h ++ xs) (plain_answers naming plans between now mid new lines hs rest more)

pub all_served : {A : Type 0} (naming : Naming A) (plans : A → Plan) (n : Noted) (had left before after : Option (List ℕ)) → IsServedBy (plain naming plans) n had left before after → IsServed naming plans had left before after
all_served naming plans n had left before after t =
    record {
      input = t.input;
      heard = t.heard;
      session = t.session;
      consumed = t.consumed;
      end = t.end;
      hears = all_hear (plain naming plans) n t.noted unheard t.session (lines_in t.input) t.heard t.answers t.shows;
      written = subst (Appends before after) (plain_answers naming plans n t.noted unheard t.session (lines_in t.input) t.heard t.answers t.shows) t.written;
    }

pub serving_begun : {A : Type 0} (naming : Naming A) (plans : A → Plan) (n : Noted) (had before after : Option (List ℕ)) → BeginsServingBy (plain naming plans) n had before after → BeginsServing naming plans had before after
serving_begun naming plans n had before after t =
    record {
      lines = t.lines;
      behind = t.behind;
      heard = t.heard;
      session = t.session;
      count = t.count;
      first = t.first;
      hears = all_hear (plain naming plans) n t.noted unheard t.session t.lines t.heard t.answers t.shows;
      written = subst (λ (xs : List ℕ). Appends before after (take t.count xs)) (plain_answers naming plans n t.noted unheard t.session t.lines t.heard t.answers t.shows) t.written;
    }
