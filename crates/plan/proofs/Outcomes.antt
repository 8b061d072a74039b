-- What holds of an outcome: one statement of its answer, another of any fault.
use Rattle.std.proofs.Common.{◌≡◌, subst}
use Rattle.bytecode.specs.Outcome.{Fault, Out, bad, good, bind}

-- E holds if the outcome is a fault, P holds of its answer
abbrev pub On : {A : Type 0} → Type 0 → (A → Type 0) → Out A → Type 0
On E P (bad e) = E
On E P (good a) = P a

pub on_bind : {A B : Type 0} (E : Type 0) (P : A → Type 0) (Q : B → Type 0) (r : Out A) (f : A → Out B)
    → On E P r → ((a : A) → P a → On E Q (f a)) → On E Q (bind r f)
on_bind E P Q (bad e) f h k = h
on_bind E P Q (good a) f h k = k a h

pub on_map : {A : Type 0} (E : Type 0) (P Q : A → Type 0) (r : Out A) → ((a : A) → P a → Q a) → On E P r → On E Q r
on_map E P Q (bad e) k h = h
on_map E P Q (good a) k h = k a h

pub on_good : {A : Type 0} (E : Type 0) (P : A → Type 0) (r : Out A) (a : A) → r ≡ good a → On E P r → P a
on_good E P r a e h = subst (On E P) e h

pub on_bad : {A : Type 0} (E : Type 0) (P : A → Type 0) (r : Out A) (e : Fault) → r ≡ bad e → On E P r → E
on_bad E P r e d h = subst (On E P) d h

pub good_bad : {A : Type 0} (a : A) (e : Fault) → good a ≡ bad e → ⊥
good_bad {A} a e h = subst (On ⊥ (λ b. Unit {0})) h tt
