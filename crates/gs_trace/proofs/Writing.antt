-- What was written of an answer.
use Rattle.std.proofs.Common.{◌≡◌, ℕ, ◌<◌, List, length, take, map, Option, Result, Ok, Err, IsErrAnd, IfErr, refl, subst, sym, ap, ◌∙◌, ◌++◌, None, Some}
use Rattle.std.specs.Io.KnownBytes.{Appends, Keeps}
use Rattle.std.specs.List.Sorted.{IsPermutation}
use Rattle.gs_journal.specs.History.{History}
use Rattle.gs_perfetto.specs.Events.{slice_front}
use Rattle.gs_script.specs.Held.{Faults}
use Rattle.gs_script.specs.Script.{Script as TheScript}
use Rattle.gs_script.specs.declared.fault.ScriptFault.{ScriptFault}
use Rattle.gs_script.specs.declared.script.ScriptError.{ScriptError}
use Rattle.gs_script.specs.declared.script.ScriptError.TheVariants as errors
use Rattle.gs_timeline.specs.Bars.{bars}
use Rattle.gs_timeline.specs.Pieces.{HasEach}
use Rattle.gs_timeline.specs.Places.{scale_of}
use Rattle.gs_timeline.specs.Sent.{Grows}
use Rattle.gs_timeline.specs.Stays.{all_stays}
use Rattle.gs_timeline.specs.declared.stay.Stay.{Stay}
use Rattle.gs_timeline.proofs.Pieces.{has_back}
use Rattle.gs_timeline.proofs.Sent.{begins_pieces}
use Rattle.gs_trace.specs.Output.{IsAnswerOf, IsPicture, IsTrace, fault_line}
use Rattle.gs_trace.specs.Streams.{Begins, Leaves, Writes}
use Rattle.gs_trace.specs.declared.run.Ended.TheVariants.{Faulted}
use Rattle.gs_trace.specs.declared.answering.Unanswered.{Unanswered}
use Rattle.gs_trace.specs.declared.answering.Unanswered.TheVariants.{Script, WriteFailed}

-- bytes that satisfy one thing satisfy another
pub writes_weaker : (Is Js : List ℕ → Type 0) (a b : Option (List ℕ)) → ((out : List ℕ) → Is out → Js out) → Writes Is a b → Writes Js a b
writes_weaker Is Js a b h (out, is, w) = (out, h out is, w)

pub begins_weaker : (Is Js : List ℕ → Type 0) (a b : Option (List ℕ)) → ((out : List ℕ) → Is out → Js out) → Begins Is a b → Begins Js a b
begins_weaker Is Js a b h (out, n, is, w, lt) = (out, n, h out is, w, lt)

pub left_weaker : {A B : Type 0} (s : Result A ScriptFault) (t : Result B ScriptFault) (Is Js : List ℕ → Type 0) (a b : Option (List ℕ)) → ((f : ScriptError) → Faults f s → Faults f t) → ((out : List ℕ) → Is out → Js out) → (e : Unanswered) → Leaves s Is a b e → Leaves t Js a b e
left_weaker s t Is Js a b g h (Script f) (faults, keeps) = (g f faults, keeps)
left_weaker s t Is Js a b g h WriteFailed (out, n, is, w, lt) = (out, n, h out is, w, lt)

-- a write of whole bytes failed
pub begins_whole : (Is : List ℕ → Type 0) (a b : Option (List ℕ)) (bytes : List ℕ) → Is bytes → (n : ℕ) × (n < length bytes) × Appends a b (take n bytes) → Begins Is a b
begins_whole Is a b bytes is (n, lt, w) = (bytes, n, is, w, lt)

-- whatever was written is a beginning of a trace
pub begins_trace : (cpus : ℕ) (h : History) (slices : List Stay) (a b : Option (List ℕ)) → IsPermutation (all_stays h cpus) slices → Grows a b → Begins (IsTrace cpus h) a b
begins_trace cpus h slices a b order grown =
    let (out, n, has, w, lt) = begins_pieces (map slice_front slices) a b grown in (out, n, (slices, order, has), w, lt)

-- an error that is known
pub if_error_is : {X E : Type 0} (r : Result X E) (e : E) (P : E → Type 0) → IsErrAnd r (λ x. x ≡ e) → P e → IfErr r P
if_error_is (Ok x) e P h p = tt
if_error_is (Err x) e P h p = subst P (sym h) p

-- a write of bytes that satisfy this failed
pub left_whole : {A X : Type 0} (read : Result A ScriptFault) (Is : List ℕ → Type 0) (a b : Option (List ℕ)) (bytes : List ℕ) (r : Result X Unanswered) → IsErrAnd r (λ x. x ≡ WriteFailed) → Is bytes → (n : ℕ) × (n < length bytes) × Appends a b (take n bytes) → IfErr r (Leaves read Is a b)
left_whole read Is a b bytes r h is w = if_error_is r WriteFailed (Leaves read Is a b) h (begins_whole Is a b bytes is w)

-- nothing was written, and then these bytes
pub keeps_appends : (a b c : Option (List ℕ)) (bytes : List ℕ) → Keeps a b → Appends b c bytes → Appends a c bytes
keeps_appends None b c bytes k w = tt
keeps_appends (Some xs) None c bytes k w = absurd k
keeps_appends (Some xs) (Some ys) None bytes k w = absurd w
keeps_appends (Some xs) (Some ys) (Some zs) bytes k w = w ∙ ap (λ t. t ++ bytes) k

-- the line of a script's fault answers it
pub answers_fault : {A : Type 0} (Shows : TheScript A → List ℕ → Type 0) (read : Result (TheScript A) ScriptFault) (f : ScriptFault) (out : List ℕ) → read ≡ Err f → out ≡ fault_line f → IsAnswerOf Shows read Faulted out
answers_fault Shows read f out e is = subst (λ (r : Result (TheScript _) ScriptFault). IsAnswerOf Shows r Faulted out) (sym e) (refl, is)

-- what the error of a script's fault leaves
pub left_fault : {A : Type 0} (read : Result A ScriptFault) (Is : List ℕ → Type 0) (a b : Option (List ℕ)) (e : Unanswered) (s : ScriptError) (f : ScriptFault) → e ≡ Script s → s ≡ errors.Fault f → Leaves read Is a b e → (read ≡ Err f) × Keeps a b
left_fault read Is a b e s f i j left =
    let (fault, keeps) : Leaves read Is a b (Script (errors.Fault f)) = subst (λ (e : Unanswered). Leaves read Is a b e) (i ∙ ap (λ (s : ScriptError). Script s) j) left in (fault, keeps)

-- a text of a picture's pieces is one
pub pictures : (from to cpus : ℕ) (h : History) (front pieces : List (List ℕ)) (out : List ℕ) → pieces ≡ front ++ bars (scale_of (length h) from to) h cpus → HasEach pieces out → IsPicture from to cpus h out
pictures from to cpus h front pieces out e has = has_back front (bars (scale_of (length h) from to) h cpus) out (subst (λ (ps : List (List ℕ)). HasEach ps out) e has)

-- and whatever was written is a beginning of one
pub begins_picture : (from to cpus : ℕ) (h : History) (front pieces : List (List ℕ)) (a b : Option (List ℕ)) → pieces ≡ front ++ bars (scale_of (length h) from to) h cpus → Grows a b → Begins (IsPicture from to cpus h) a b
begins_picture from to cpus h front pieces a b e grown =
    let (out, n, has, w, lt) = begins_pieces pieces a b grown in (out, n, pictures from to cpus h front pieces out e has, w, lt)
