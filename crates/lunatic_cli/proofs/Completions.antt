-- What becomes of a file, by the verdict on its bytes.
use Rattle.std.proofs.Common.{◌≡◌, ◌≢◌, ℕ, ◌≤◌, List, length, Option, Some, None, ◌⊎◌, inl, inr, refl, sym, ap, ◌∙◌, subst, arith}
use Rattle.std.specs.Prelude.{IfSome, IfNone}
use Rattle.outside.specs.Causes.{RoseOrFull, StayedBelow}
use Rattle.outside.specs.Files.{Contents}
use Rattle.host_port.specs.declared.start.StartRefusal.{StartRefusal}
use Rattle.wasm_form.specs.declared.parts.Parts.{Parts}
use Rattle.wasm_form.specs.Modules.{Spells}
use Rattle.wasm_form.specs.Verdict as is
use Rattle.module_validator.specs.Host.{host}
use Rattle.module_validator.specs.Answers.{meant_by}
use Rattle.module_validator.specs.declared.answer.Verdict.{Verdict}
use Rattle.module_validator.specs.declared.answer.Verdict.TheVariants.{Accepted, Malformed, Outside, Invalid}
use Rattle.tree_machine.specs.Begin.{begin}
use Rattle.command_words.specs.declared.options.Options.{Options}
use Rattle.lunatic_cli.specs.File.{file_limit, IsContent, IsUnreadable, TellsUnread, HasVerdict, HasModule}
use Rattle.lunatic_cli.specs.Options.{first_start}
use Rattle.lunatic_cli.specs.Runs.{Returns}
use Rattle.lunatic_cli.specs.Writing.{Written}
use Rattle.lunatic_cli.specs.Checks.{TellsVerdict, CheckCompletes}
use Rattle.lunatic_cli.specs.Ending.{RunCompletes}
use Rattle.lunatic_cli.proofs.Told.{IsTold}

same_bytes : (a b : List ℕ) → Some a ≡ Some b → b ≡ a
same_bytes a b e = cc

-- a file whose store tells it has one list of bytes
verdict_here : (files : Contents) (name bytes : List ℕ) (said : Verdict) → IsContent (Some files) name bytes → HasVerdict (Some files) name said → is.IsVerdict host bytes (meant_by said)
verdict_here files name bytes said is_content has =
    subst (λ (b : List ℕ). is.IsVerdict host b (meant_by said)) (same_bytes bytes has.bytes (sym is_content.told ∙ has.is_content.told)) has.is_verdict

abbrev pub IsAlone : Type 0
IsAlone = (bytes : List ℕ) (said : Verdict) → is.IsVerdict host bytes is.Accepted → is.IsVerdict host bytes (meant_by said) → said ≡ Accepted

abbrev pub IsOne : Type 0
IsOne = (bytes : List ℕ) (m n : Parts) → Spells bytes m → Spells bytes n → m ≡ n

-- the verdict on a file of an accepted module
pub accepted_file : (content : Option Contents) (name : List ℕ) (m : Parts) → HasModule content name m → HasVerdict content name Accepted
accepted_file content name m has = record { bytes = has.bytes; is_content = has.is_content; is_verdict = (m, has.is_spelled, has.is_accepted) }

-- a file whose store tells it has one module
same_module : IsOne → (files : Contents) (name : List ℕ) (m n : Parts) → HasModule (Some files) name m → HasModule (Some files) name n → m ≡ n
same_module one files name m n has other =
    let same : other.bytes ≡ has.bytes = same_bytes has.bytes other.bytes (sym has.is_content.told ∙ other.is_content.told) in
    one has.bytes m n has.is_spelled (subst (λ (b : List ℕ). Spells b n) same other.is_spelled)

-- a run

-- what becomes of the run of this module, want of memory aside
pub record CompletesModule (options : Options) (m : Parts) (status : ℕ) : Type 0 where
  pub begun : begin m (first_start options) ≡ None → IsTold status
  pub returned : Returns options m → (status ≡ 0) ⊎ (status ≡ 8)
  pub unbegun : (why : StartRefusal) → begin m (first_start options) ≡ Some why → (status ≡ 3) ⊎ (status ≡ 8)

pub module_completes : IsAlone → IsOne → (content : Option Contents) (name : List ℕ) (options : Options) (m : Parts) (status : ℕ) → HasModule content name m →
    CompletesModule options m status → RunCompletes content name options status
module_completes alone one None name options m status has completes = tt
module_completes alone one (Some files) name options m status has completes = record {
  begun = λ n other begun. completes.begun (ap (λ (p : Parts). begin p (first_start options)) (same_module one files name m n has other) ∙ begun);
  returned = λ n other returns. completes.returned (subst (Returns options) (same_module one files name n m other has) returns);
  unbegun = λ n why other unbegun. completes.unbegun why (ap (λ (p : Parts). begin p (first_start options)) (same_module one files name m n has other) ∙ unbegun);
  refused = λ said other refused. absurd (other (alone has.bytes said (m, has.is_spelled, has.is_accepted) (verdict_here files name has.bytes said has.is_content refused)));
}

refused_not : {A : Type 0} → IsAlone → (files : Contents) (name bytes : List ℕ) (said : Verdict) → IsContent (Some files) name bytes → said ≢ Accepted →
    is.IsVerdict host bytes (meant_by said) → (m : Parts) → HasModule (Some files) name m → A
refused_not alone files name bytes said is_content other v m has =
    absurd (other (alone bytes said (verdict_here files name bytes Accepted is_content (accepted_file (Some files) name m has)) v))

pub refused_completes : IsAlone → (content : Option Contents) (name bytes : List ℕ) (options : Options) (said : Verdict) (status : ℕ) → IsContent content name bytes →
    said ≢ Accepted → is.IsVerdict host bytes (meant_by said) → status ≡ 3 → RunCompletes content name options status
refused_completes alone None name bytes options said status is_content other v s = tt
refused_completes alone (Some files) name bytes options said status is_content other v s = record {
  begun = λ m has _. refused_not alone files name bytes said is_content other v m has;
  returned = λ m has _. refused_not alone files name bytes said is_content other v m has;
  unbegun = λ m why has _. refused_not alone files name bytes said is_content other v m has;
  refused = λ _ _ _. inl s;
}

pub memory_completes : (content : Option Contents) (name : List ℕ) (options : Options) (status : ℕ) → status ≡ 8 → RunCompletes content name options status
memory_completes None name options status s = tt
memory_completes (Some files) name options status s = record {
  begun = λ _ _ _. inr (inr (inr (inr s)));
  returned = λ _ _ _. inr s;
  unbegun = λ _ _ _ _. inr s;
  refused = λ _ _ _. inr s;
}

-- a check

pub check_accepted : IsAlone → (content : Option Contents) (name bytes : List ℕ) (status : ℕ) → IsContent content name bytes →
    is.IsVerdict host bytes is.Accepted → (status ≡ 0) ⊎ (status ≡ 8) → CheckCompletes content name status
check_accepted alone None name bytes status is_content accepted s = tt
check_accepted alone (Some files) name bytes status is_content accepted s = record {
  accepted = λ _. s;
  refused = λ said other has. absurd (other (alone bytes said accepted (verdict_here files name bytes said is_content has)));
}

pub check_refused : IsAlone → (content : Option Contents) (name bytes : List ℕ) (said : Verdict) (status : ℕ) → IsContent content name bytes →
    said ≢ Accepted → is.IsVerdict host bytes (meant_by said) → (status ≡ 3) ⊎ (status ≡ 8) → CheckCompletes content name status
check_refused alone None name bytes said status is_content other v s = tt
check_refused alone (Some files) name bytes said status is_content other v s = record {
  accepted = λ has. absurd (other (alone bytes said (verdict_here files name bytes Accepted is_content has) v));
  refused = λ _ _ _. s;
}

pub check_memory : (content : Option Contents) (name : List ℕ) (status : ℕ) → status ≡ 8 → CheckCompletes content name status
check_memory None name status s = tt
check_memory (Some files) name status s = record { accepted = λ _. inr s; refused = λ _ _ _. inr s }

-- what was told of a verdict

abbrev pub Told : Verdict → Option Verdict → Written → ℕ → Type 0
Told said checked sink status = IfSome checked (λ v. (v ≡ said) × TellsVerdict said sink status)

-- a verdict that is told, or want of memory
tells_refused : (M : Type 0) (said : Verdict) (checked : Option Verdict) (sink : Written) (status : ℕ) → said ≢ Accepted →
    Told said checked sink status → IfNone checked ((status ≡ 8) × M) → (status ≡ 3) ⊎ (status ≡ 8)
tells_refused M said None sink status other told memory = inr memory.0
tells_refused M Accepted (Some v) sink status other told memory = absurd (other refl)
tells_refused M Malformed (Some v) sink status other told memory = inl told.1.0
tells_refused M (Outside rule) (Some v) sink status other told memory = inl told.1.0
tells_refused M (Invalid place) (Some v) sink status other told memory = inl told.1.0

pub check_completes : (M : Type 0) → IsAlone → (content : Option Contents) (name bytes : List ℕ) (said : Verdict) (checked : Option Verdict) (sink : Written) (status : ℕ) →
    IsContent content name bytes → is.IsVerdict host bytes (meant_by said) → Told said checked sink status → IfNone checked ((status ≡ 8) × M) →
    (status ≡ 5 → RoseOrFull sink.faults_before sink.faults_after) → StayedBelow sink.faults_before sink.faults_after → CheckCompletes content name status
check_completes M alone content name bytes said None sink status is_content v told memory unwritten stayed = check_memory content name status memory.0
check_completes M alone content name bytes Accepted (Some w) sink status is_content v told memory unwritten stayed = elim told.1 [
  | inl done ↦ check_accepted alone content name bytes status is_content v (inl done.0)
  | inr front ↦ absurd (omega (arith, unwritten front.0, stayed))
]
check_completes M alone content name bytes Malformed (Some w) sink status is_content v told memory unwritten stayed =
    check_refused alone content name bytes Malformed status is_content (λ e. absurd (cc)) v (inl told.1.0)
check_completes M alone content name bytes (Outside rule) (Some w) sink status is_content v told memory unwritten stayed =
    check_refused alone content name bytes (Outside rule) status is_content (λ e. absurd (cc)) v (inl told.1.0)
check_completes M alone content name bytes (Invalid place) (Some w) sink status is_content v told memory unwritten stayed =
    check_refused alone content name bytes (Invalid place) status is_content (λ e. absurd (cc)) v (inl told.1.0)

pub run_refused : (M : Type 0) → IsAlone → (content : Option Contents) (name bytes : List ℕ) (options : Options) (said : Verdict) (checked : Option Verdict) (sink : Written) (status : ℕ) →
    IsContent content name bytes → said ≢ Accepted → is.IsVerdict host bytes (meant_by said) → Told said checked sink status → IfNone checked ((status ≡ 8) × M) →
    RunCompletes content name options status
run_refused M alone content name bytes options said checked sink status is_content other v told memory = elim (tells_refused M said checked sink status other told memory) [
  | inl refused ↦ refused_completes alone content name bytes options said status is_content other v refused
  | inr eight ↦ memory_completes content name options status eight
]

-- a file that was judged is not unreadable

readable : (file : Option (List ℕ)) (bytes : List ℕ) → length bytes ≤ file_limit → file ≡ Some bytes → IsUnreadable file → ⊥
readable None bytes within e unreadable = absurd (cc)
readable (Some b) bytes within e unreadable = let same : b ≡ bytes = cc in let l : length b ≡ length bytes = ap (λ (x : List ℕ). length x) same in omega arith

pub judged_is_read : (content : Option Contents) (name bytes : List ℕ) (before now status : ℕ) → IsContent content name bytes → status ≢ 4 → TellsUnread content before now name status
judged_is_read None name bytes before now status is_content other = λ _ _. tt
judged_is_read (Some files) name bytes before now status is_content other =
    λ _ _. (λ four. absurd (other four), λ unreadable. absurd (readable (files name) bytes is_content.within is_content.told unreadable))

pub told_is_read : (M : Type 0) (content : Option Contents) (name bytes : List ℕ) (said : Verdict) (checked : Option Verdict) (sink : Written) (before now status : ℕ) →
    IsContent content name bytes → Told said checked sink status → IfNone checked ((status ≡ 8) × M) → TellsUnread content before now name status
told_is_read M content name bytes said checked sink before now status is_content told memory =
    judged_is_read content name bytes before now status is_content (other said checked told memory)
  where
    other : (v : Verdict) (o : Option Verdict) → Told v o sink status → IfNone o ((status ≡ 8) × M) → status ≢ 4
    other v None t m = λ e. let eight = m.0 in omega arith
    other Accepted (Some w) t m = λ e. elim t.1 [ inl done ↦ (let zero_is = done.0 in omega arith) | inr front ↦ (let five = front.0 in omega arith) ]
    other Malformed (Some w) t m = λ e. let three = t.1.0 in omega arith
    other (Outside rule) (Some w) t m = λ e. let three = t.1.0 in omega arith
    other (Invalid place) (Some w) t m = λ e. let three = t.1.0 in omega arith

pub refused_is_read : (M : Type 0) (content : Option Contents) (name bytes : List ℕ) (said : Verdict) (checked : Option Verdict) (sink : Written) (before now status : ℕ) →
    IsContent content name bytes → said ≢ Accepted → Told said checked sink status → IfNone checked ((status ≡ 8) × M) → TellsUnread content before now name status
refused_is_read M content name bytes said checked sink before now status is_content other told memory =
    judged_is_read content name bytes before now status is_content
    (λ four. elim (tells_refused M said checked sink status other told memory) [ inl three ↦ absurd (omega arith) | inr eight ↦ absurd (omega arith) ])
