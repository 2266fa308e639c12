-- The classes of bytes that the XML block is made of.
use Rattle.std.specs.Prelude.{◌≡◌, ℕ, Bool, true, not, ◌&&◌, ◌||◌, List, ◌==◌, nat_le}
use Rattle.std.specs.List.{AllByRecursion}
use Rattle.xml.specs.declared.class.Class.{Class}
use Rattle.xml.specs.declared.class.Class.TheVariants.{White, Name, AttributeName, Text, Value}

-- white space: 20, 09, 0A and 0D
abbrev pub white : ℕ → Bool
white b = b == 32 || (b == 9 || (b == 10 || b == 13))

-- what a name starts with: a letter or an underscore
abbrev pub name_start_byte : ℕ → Bool
name_start_byte b = (nat_le 65 b && nat_le b 90) || ((nat_le 97 b && nat_le b 122) || b == 95)

-- what a name goes on with: letters, digits, `_`, `-` and `.`
abbrev pub name_byte : ℕ → Bool
name_byte b = name_start_byte b || ((nat_le 48 b && nat_le b 57) || (b == 45 || b == 46))

-- what an attribute's name goes on with: the same, and `:`
abbrev pub attribute_byte : ℕ → Bool
attribute_byte b = name_byte b || b == 58

-- text: 09, 0A, 0D, and 20 and above without 7F, `<` and `&`
abbrev pub text_byte : ℕ → Bool
text_byte b = (nat_le 32 b || white b) && (not (b == 127) && (not (b == 60) && not (b == 38)))

-- what stands in a value between two quotes q: any byte but that quote and `<`
abbrev pub value_byte : ℕ → ℕ → Bool
value_byte q b = not (b == q) && not (b == 60)

-- what the end of a tag begins with: `>` or `/`
abbrev pub tag_end : ℕ → Bool
tag_end b = b == 62 || b == 47

-- the byte b is of the class
abbrev pub is_in : Class → ℕ → Bool
is_in White b = white b
is_in Name b = name_byte b
is_in AttributeName b = attribute_byte b
is_in Text b = text_byte b
is_in (Value q) b = value_byte q b

-- every byte is of the kind p
abbrev pub AllOf : (ℕ → Bool) → List ℕ → Type 0
AllOf p bs = AllByRecursion (λ b. p b ≡ true) bs
