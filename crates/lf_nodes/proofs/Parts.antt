-- What is told of parts of which it is known how many there are.
use Rattle.std.proofs.Common.{◌≡◌, List, [], ◌∷◌}

pub the_one : {A : Type 0} {parts : List A} {x y : A} → parts ≡ x ∷ [] → parts ≡ y ∷ [] → x ≡ y
the_one p q = cc

pub first_of_two : {A : Type 0} {parts : List A} {x y u v : A} → parts ≡ x ∷ u ∷ [] → parts ≡ y ∷ v ∷ [] → x ≡ y
first_of_two p q = cc

pub second_of_two : {A : Type 0} {parts : List A} {x y u v : A} → parts ≡ x ∷ u ∷ [] → parts ≡ y ∷ v ∷ [] → u ≡ v
second_of_two p q = cc
