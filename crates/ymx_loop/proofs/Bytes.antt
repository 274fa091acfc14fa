-- Bytes that stay as they were.
use Rattle.std.proofs.Common.{◌≡◌, ◌++◌, ℕ, List, [], ◌∷◌, take, refl, sym, ap, ◌∙◌, append-nil, append_assoc, Option, Some, None}
use Rattle.std.specs.Io.KnownBytes.{Keeps, Appends, Consumes, prepend_known}

pub none_consumed : (old new : Option (List ℕ)) (buffer : List ℕ) → Keeps old new → Consumes old new (take 0 buffer)
none_consumed None new buffer k = tt
none_consumed (Some xs) None buffer k = k
none_consumed (Some xs) (Some ys) buffer k = sym k

pub none_appended : (old new : Option (List ℕ)) (buffer : List ℕ) → Keeps old new → Appends old new (take 0 buffer)
none_appended None new buffer k = tt
none_appended (Some xs) None buffer k = k
none_appended (Some xs) (Some ys) buffer k = k ∙ sym (append-nil xs)

pub all_kept : (known : Option (List ℕ)) → Keeps known known
all_kept None = tt
all_kept (Some xs) = refl

-- those that stand before a device's own are given first
pub head_given : (known : Option (List ℕ)) (old new given : List ℕ) → old ≡ given ++ new → Consumes (prepend_known old known) (prepend_known new known) given
head_given None old new given e = tt
head_given (Some xs) old new given e = ap (λ (v : List ℕ). v ++ xs) e ∙ append_assoc given new xs

-- its own are given where none stands before them
pub own_given : (left left_new : Option (List ℕ)) (proxy_header given : List ℕ) → proxy_header ≡ [] → Consumes left left_new given → Consumes (prepend_known proxy_header left) (prepend_known proxy_header left_new) given
own_given None left_new proxy_header given e c = tt
own_given (Some xs) None [] given e c = c
own_given (Some xs) (Some ys) [] given e c = c
own_given (Some xs) left_new (x ∷ proxy_header) given e c = cc
