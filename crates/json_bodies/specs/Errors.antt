-- Why a body is not read, and what a function that reads it gives.
use Rattle.std.specs.Prelude.{◌≡◌, Bool, true, false, Option, None, Some, Result, Ok, Err, ⊤}
use Rattle.cat_model.specs.declared.reply.Refusal.{Refusal}
use Rattle.cat_model.specs.declared.reply.Refusal.TheVariants as refusals
use Rattle.json_bodies.specs.declared.field.Field.{Field}
use Rattle.json_bodies.specs.declared.error.ReadError.{ReadError}
use Rattle.json_bodies.specs.declared.error.ReadError.TheVariants.{Invalid, TooLarge, Memory}
use Rattle.json_bodies.specs.Fields.{name_of}

abbrev pub refusal_of : ReadError → Refusal
refusal_of (Invalid field) = refusals.Invalid (name_of field)
refusal_of TooLarge = refusals.TooLarge
refusal_of Memory = refusals.Memory

-- Reading stops at the first fault.
infixl 10 ◌>>=◌
abbrev pub ◌>>=◌ : {A B : Type 0} → Result A ReadError → (A → Result B ReadError) → Result B ReadError
(Ok x) >>= f = f x
(Err e) >>= f = Err e

-- the field is wrong
abbrev pub refuse : {A : Type 0} → Field → Result A ReadError
refuse field = Err (Invalid field)

abbrev pub refuse_if : Bool → Field → Result ⊤ ReadError
refuse_if true field = refuse field
refuse_if false field = Ok tt

abbrev pub or_refuse : {A : Type 0} → Field → Option A → Result A ReadError
or_refuse field None = refuse field
or_refuse field (Some x) = Ok x

-- What a function returned is what reading gives, unless memory ran out.
abbrev pub Fails : {A : Type 0} → ReadError → Result A ReadError → Type 0
Fails Memory read = Unit {0}
Fails (Invalid field) read = read ≡ Err (Invalid field)
Fails TooLarge read = read ≡ Err TooLarge

abbrev pub Gives : {A : Type 0} → Result A ReadError → Result A ReadError → Type 0
Gives (Ok x) read = read ≡ Ok x
Gives (Err e) read = Fails e read

-- the same of what it returned as view sees it
abbrev pub GivesSeen : {X Y : Type 0} → (X → Y) → Result X ReadError → Result Y ReadError → Type 0
GivesSeen view (Ok x) read = read ≡ Ok (view x)
GivesSeen view (Err e) read = Fails e read
