-- What is said of a fault only where it is the content's.
use Rattle.st_format.specs.Given.{IfContentBy, IfOfContent, OfContent, OfDevice, OfMemory, Origin}

of_content : (o : Origin) (P : Type 0) → P → IfOfContent o P
of_content OfDevice P p = tt
of_content OfMemory P p = tt
of_content OfContent P p = p

weaker : (o : Origin) (P Q : Type 0) → (P → Q) → IfOfContent o P → IfOfContent o Q
weaker OfDevice P Q h p = tt
weaker OfMemory P Q h p = tt
weaker OfContent P Q h p = h p

pub if_content : {F : Type 0} (origin : F → Origin) (f : F) (P : Type 0) → P
    → IfContentBy origin f P
if_content origin f P p = of_content (origin f) P p

pub if_content_weaker : {F : Type 0} (origin : F → Origin) (f : F) (P Q : Type 0) → (P → Q)
    → IfContentBy origin f P → IfContentBy origin f Q
if_content_weaker origin f P Q h p = weaker (origin f) P Q h p
