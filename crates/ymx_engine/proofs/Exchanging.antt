-- What lists of events, and what is known of a device, come to over many calls.
use Rattle.std.proofs.Common.{◌≡◌, ◌⊎◌, inl, inr, ℕ, ◌+◌, ◌≤◌, ◌<◌, ◌==◌, ◌||◌, List, [], ◌∷◌, ◌++◌, length, take, Bool, true, false, Option, None, Some, refl, sym, ap, ◌∙◌, subst, arith, append-nil, append_assoc, length-append}
use Rattle.std.specs.Prelude.{option_map, IfSome}
use Rattle.std.specs.Io.KnownBytes.{Appends, Consumes, IsAtEnd}
use Rattle.std.proofs.KnownBytes.{Appends-nil, Consumes-nil}
use Rattle.std.proofs.Math.Bool.{or_assoc}
use Rattle.std.proofs.lemmas.Grind.{common_steps}
use Rattle.ymx_model.specs.session.Events.{Event}
use Rattle.ymx_machine.specs.shared.Events.{Reply}
use Rattle.ymx_machine.specs.declared.types.Reply.TheVariants as reply
use Rattle.ymx_model.specs.session.Sessions.{Session}
use Rattle.ymx_engine.specs.declared.device.Pulled.{Pulled}
use Rattle.ymx_engine.specs.declared.device.Pushed.{Pushed}
use Rattle.ymx_engine.specs.Devices.{Seen, pulled_count, pushed_count, IsPulled, IsPushed}
use Rattle.ymx_engine.specs.Events.{Happen, taken_at, taken, given_at, given, is_read_end, ends_at, has_end, finishes_at, has_finish, resets_at, has_reset, is_refusal, is_stop, stops_at, has_stop, lacks_memory_at, lacks_memory}
use Rattle.ymx_engine.specs.Exchanges.{has_bytes}

-- ---- lists of events

pub happen_then : (es fs : List (Event × Reply)) (s t u : Session) → Happen es s t → Happen fs t u → Happen (es ++ fs) s u
happen_then [] fs s t u h k = subst (λ (v : Session). Happen fs v u) h k
happen_then (e ∷ es) fs s t u h k = (h.0, h.1, happen_then es fs h.0 t u h.2 k)

pub taken_then : (id : ℕ) (es fs : List (Event × Reply)) → taken id (es ++ fs) ≡ taken id es ++ taken id fs
taken_then id [] fs = refl
taken_then id (e ∷ es) fs = ap (λ (xs : List ℕ). taken_at id e.0 e.1 ++ xs) (taken_then id es fs) ∙ sym (append_assoc (taken_at id e.0 e.1) (taken id es) (taken id fs))

pub given_then : (id : ℕ) (es fs : List (Event × Reply)) → given id (es ++ fs) ≡ given id es ++ given id fs
given_then id [] fs = refl
given_then id (e ∷ es) fs = ap (λ (xs : List ℕ). given_at id e.0 e.1 ++ xs) (given_then id es fs) ∙ sym (append_assoc (given_at id e.0 e.1) (given id es) (given id fs))

pub end_then : (id : ℕ) (es fs : List (Event × Reply)) → has_end id (es ++ fs) ≡ (has_end id es || has_end id fs)
end_then id [] fs = refl
end_then id (e ∷ es) fs = ap (λ (b : Bool). ends_at id e.0 e.1 || b) (end_then id es fs) ∙ sym (or_assoc (ends_at id e.0 e.1) (has_end id es) (has_end id fs))

pub finish_then : (id : ℕ) (es fs : List (Event × Reply)) → has_finish id (es ++ fs) ≡ (has_finish id es || has_finish id fs)
finish_then id [] fs = refl
finish_then id (e ∷ es) fs = ap (λ (b : Bool). finishes_at id e.0 || b) (finish_then id es fs) ∙ sym (or_assoc (finishes_at id e.0) (has_finish id es) (has_finish id fs))

pub reset_then : (id : ℕ) (es fs : List (Event × Reply)) → has_reset id (es ++ fs) ≡ (has_reset id es || has_reset id fs)
reset_then id [] fs = refl
reset_then id (e ∷ es) fs = ap (λ (b : Bool). resets_at id e.0 || b) (reset_then id es fs) ∙ sym (or_assoc (resets_at id e.0) (has_reset id es) (has_reset id fs))

pub stop_then : (id : ℕ) (es fs : List (Event × Reply)) → has_stop id (es ++ fs) ≡ (has_stop id es || has_stop id fs)
stop_then id [] fs = refl
stop_then id (e ∷ es) fs = ap (λ (b : Bool). stops_at id e.0 e.1 || b) (stop_then id es fs) ∙ sym (or_assoc (stops_at id e.0 e.1) (has_stop id es) (has_stop id fs))

pub lacks_then : (id : ℕ) (es fs : List (Event × Reply)) → lacks_memory id (es ++ fs) ≡ (lacks_memory id es || lacks_memory id fs)
lacks_then id [] fs = refl
lacks_then id (e ∷ es) fs = ap (λ (b : Bool). lacks_memory_at id e.0 e.1 || b) (lacks_then id es fs) ∙ sym (or_assoc (lacks_memory_at id e.0 e.1) (lacks_memory id es) (lacks_memory id fs))

-- ---- tests and options

pub or_second : (a b : Bool) → b ≡ true → (a || b) ≡ true
or_second true b h = refl
or_second false b h = h

pub or_none : (b : Bool) → (b || false) ≡ b
or_none true = refl
or_none false = refl

pub or_cases : (a b : Bool) → (a || b) ≡ true → (a ≡ true) ⊎ (b ≡ true)
or_cases true b h = inl refl
or_cases false b h = inr h

pub or_same : (o : Option Bool) → o ≡ option_map (λ b. b || false) o
or_same None = refl
or_same (Some b) = ap (λ (x : Bool). Some x) (sym (or_none b))

pub or_true : (o : Option Bool) → option_map (λ b. true) o ≡ option_map (λ b. b || true) o
or_true None = refl
or_true (Some true) = refl
or_true (Some false) = refl

pub or_twice : (x y : Bool) (o : Option Bool) → option_map (λ b. b || y) (option_map (λ b. b || x) o) ≡ option_map (λ b. b || (x || y)) o
or_twice x y None = refl
or_twice x y (Some b) = ap (λ (c : Bool). Some c) (or_assoc b x y)

pub not_true : (b : Bool) → (b ≡ true → ⊥) → b ≡ false
not_true true h = absurd (h refl)
not_true false h = refl

pub same_id : (n : ℕ) → (n == n) ≡ true
same_id n = grind arith

-- a flag that this does not raise, and one that it does
pub or_off : (raises : Bool) (o : Option Bool) → raises ≡ false → o ≡ option_map (λ x. x || raises) o
or_off raises o none = rw none (or_same o)

pub or_on : (raises : Bool) (o p : Option Bool) → raises ≡ true → p ≡ option_map (λ b. true) o → p ≡ option_map (λ x. x || raises) o
or_on raises o p is e = rw is (e ∙ or_true o)

-- ---- known bytes

no_bytes : (xs : List ℕ) → length xs ≡ 0 → xs ≡ []
no_bytes [] e = refl
no_bytes (x ∷ xs) e = grind (arith, common_steps)

pub whole_before : (a b c : Option (List ℕ)) (t u : List ℕ) → Consumes a b t → Consumes b c u → IfSome a (λ all. all ≡ t) → IfSome a (λ all. all ≡ t ++ u)
whole_before None b c t u p q e = tt
whole_before (Some x) None c t u p q e = absurd p
whole_before (Some x) (Some y) None t u p q e = absurd q
whole_before (Some x) (Some y) (Some z) t u p q e =
    let l : length x ≡ length t + length y = ap length p ∙ simp length-append in
    let m : length y ≡ length u + length z = ap length q ∙ simp length-append in
    let k : length x ≡ length t = ap length e in
    let none : u ≡ [] = no_bytes u (omega arith) in
    e ∙ sym (ap (λ (v : List ℕ). t ++ v) none ∙ append-nil t)

pub whole_after : (a b : Option (List ℕ)) (t u : List ℕ) → Consumes a b t → IfSome b (λ all. all ≡ u) → IfSome a (λ all. all ≡ t ++ u)
whole_after None b t u p e = tt
whole_after (Some x) None t u p e = absurd p
whole_after (Some x) (Some y) t u p e = p ∙ ap (λ (v : List ℕ). t ++ v) e

pub same_consumes : (a b : Option (List ℕ)) → b ≡ a → Consumes a b []
same_consumes a b e = subst (λ (o : Option (List ℕ)). Consumes a o []) (sym e) (Consumes-nil a)

pub same_appends : (a b : Option (List ℕ)) → b ≡ a → Appends a b []
same_appends a b e = subst (λ (o : Option (List ℕ)). Appends a o []) (sym e) (Appends-nil a)

pub at_end : (a b : Option (List ℕ)) (t : List ℕ) → Consumes a b t → IsAtEnd b → IfSome a (λ all. all ≡ t)
at_end None b t p e = tt
at_end (Some x) None t p e = absurd p
at_end (Some x) (Some y) t p e = p ∙ ap (λ (v : List ℕ). t ++ v) e ∙ append-nil t

-- ---- calls of a device

-- a call that is granted stops nothing
pub granted_goes : (told : Reply) → is_refusal told ≡ false → is_stop told ≡ false
granted_goes (reply.Refused fault) h = cc
granted_goes told h = refl

pub refused_goes : (told : Reply) → is_refusal told ≡ true → is_read_end told ≡ false
refused_goes (reply.Refused fault) h = refl
refused_goes told h = cc

pub still : (v : Bool) (o p : Option Bool) → p ≡ option_map (λ x. x || v) o → v ≡ false → p ≡ o
still v o p e none = e ∙ ap (λ (w : Bool). option_map (λ x. x || w) o) none ∙ sym (or_same o)

pub none_pulled : (r : Pulled) (buffer : List ℕ) (a b : Seen) → IsPulled r buffer a b → pulled_count r ≡ 0 → Consumes a.left b.left []
none_pulled r buffer a b p n = subst (λ (k : ℕ). Consumes a.left b.left (take k buffer)) n p.gave

pub none_pushed : (r : Pushed) (bytes : List ℕ) (a b : Seen) → IsPushed r bytes a b → pushed_count r ≡ 0 → Appends a.had b.had []
none_pushed r bytes a b p n = subst (λ (k : ℕ). Appends a.had b.had (take k bytes)) n p.took

pub take_both : (n m : ℕ) (xs : List ℕ) → n ≤ m → take n (take m xs) ≡ take n xs
take_both n m xs h = grind (arith, common_steps)

pub end_granted : (told : Reply) → is_read_end told ≡ true → is_refusal told ≡ false
end_granted reply.ReadEnd h = refl
end_granted told h = cc

pub some_bytes : (xs : List ℕ) → 0 < length xs → has_bytes xs ≡ true
some_bytes [] h = grind (arith, common_steps)
some_bytes (x ∷ xs) h = refl
