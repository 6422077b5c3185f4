mod ExampleTerms
