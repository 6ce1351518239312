-- A sequentially consistent execution is SC per location: each of its paths there is one here.
use Rattle.sc_and_interleavings.proofs.Vocabulary.{List, [], ◌∷◌, WriteAt, Access, Execution, Step, Po, Rf, Co, Fr, IsPathOfSteps, IsScPerLocation, Precedes, StepBy, ByPo, ByRf, ByCo, ByFr, IsPathBy, IsSequential}

step_there : (threads : List (List Access)) (x : Execution) (e f : WriteAt) → Step threads x e f → StepBy (Precedes threads) threads x e f
step_there threads x e f (Po h) = ByPo (record { first = (h.first.0, h.first.1); second = (h.second.0, h.second.1); thread = h.thread; earlier = h.earlier })
step_there threads x e f (Rf h) = ByRf h
step_there threads x e f (Co place h) = ByCo place h
step_there threads x e f (Fr h) = ByFr h

path_there : (threads : List (List Access)) (x : Execution) (e : WriteAt) (between : List WriteAt) (f : WriteAt) → IsPathOfSteps threads x e between f → IsPathBy (Precedes threads) threads x e between f
path_there threads x e [] f h = step_there threads x e f h
path_there threads x e (g ∷ between) f h = (step_there threads x e g h.0, path_there threads x g between f h.1)

-- a sequentially consistent execution is SC per location
pub sequential_per_location : (threads : List (List Access)) (x : Execution) → IsSequential threads x → IsScPerLocation threads x
sequential_per_location threads x h e between path = h e between (path_there threads x e between e path)
